-- `fill_numbers` is right by the law of the loop that stores numbers.
-- Assumes nothing.
use mathlib.Core.Path.{◌≡◌, sym, ap, ◌∙◌}
use mathlib.Core.Bool.{Bool}
use mathlib.Core.List.{List}
use Prim.Native.Nat.{ℕ, ◌-◌, ◌≤◌}
use native.Mathlib.Omega.{arith}
use lib.ListN.{length}
use borrow.Author.Tests.{le-leb, lt-leb}
use Rattle.terminal.specs.Terminal.{lower}
use Rattle.lexicon.specs.Word.{is_name}
use Rattle.token.specs.Cut.{meanings_in}
use Rattle.definition.specs.Landmark.{class_at}
use Rattle.scope.specs.Token.{classes_of}
use Rattle.scope.specs.Import.{imports_end}
use Rattle.scope.proofs.Tokens.{classes_are, few_classes}
use Rattle.scope.proofs.Imports.{end_inside}
use Rattle.naming.proofs.Numbers.{Numbering, numbering_start, numbering_number, numbering_skip, numbering_end}
use Rattle.naming.proofs.number.fill_numbers.Statement.{statement}
use Rattle.naming.proofs.number.fill_numbers.Tie as tie

abbrev invariant-loop : tie.invariant-loop-i
invariant-loop text classes starts ends values₀ end i₀ values i = Numbering (meanings_in text) values₀ i values × (i ≤ end)

abbrev decreases-loop : tie.decreases-loop-i
decreases-loop text classes starts ends values₀ end i₀ values i = end - i

abbrev start_of : tie.At-loop-i invariant-loop decreases-loop → tie.Start invariant-loop decreases-loop
start_of l = l.before.before.before.before.before.before.before

end_is : (l : tie.At-loop-i invariant-loop decreases-loop) → l.imports_end-end.result ≡ imports_end (classes_of (meanings_in (start_of l).args.text.now))
end_is l = l.imports_end-end.ensures ∙ ap imports_end (classes_are _ _ _ _ (start_of l).requires.0)

end_in : (l : tie.At-loop-i invariant-loop decreases-loop) → l.imports_end-end.result ≤ length (start_of l).args.classes.now
end_in l = omega (arith, l.imports_end-end.ensures, end_inside (start_of l).args.classes.now)

class_said : (l : tie.At-loop-i invariant-loop decreases-loop) {b : Bool} → is_name (class_at (start_of l).args.classes.now l.loop-i.i) ≡ b
    → is_name (class_at (classes_of (meanings_in (start_of l).args.text.now)) l.loop-i.i) ≡ b
class_said l e = ap (λ (cs : List ℕ). is_name (class_at cs l.loop-i.i)) (sym (classes_are _ _ _ _ (start_of l).requires.0)) ∙ e

imports-end-requires : tie.Need-imports_end-end-requires invariant-loop decreases-loop
imports-end-requires c κs = tt

loop-holds : tie.Need-loop-i-init invariant-loop decreases-loop
loop-holds c = (numbering_start _ _, omega arith)

shared-slice-read-if1 : tie.Need-bounds-classes-i invariant-loop decreases-loop
shared-slice-read-if1 c = let l = c in omega (arith, c.loop-i-test.true, end_in l.before.before)

magnitude-at-requires : tie.Need-magnitude_at-requires invariant-loop decreases-loop
magnitude-at-requires c κs = let l = c in ((start_of l.before.before.before).requires.0, omega (arith, c.loop-i-test.true, end_in l.before.before.before))

mul-values : tie.Need-offset_bounds-values-i invariant-loop decreases-loop
mul-values c = let l = c in omega (arith, c.loop-i-test.true, end_in l.before.before.before.before, few_classes _ _ _ _ (start_of l.before.before.before.before).requires.0)

slice-write-values : tie.Need-bounds-values-i invariant-loop decreases-loop
slice-write-values c = let l = c in omega (arith, c.loop-i-test.true, end_in l.before.before.before.before, l.loop-i.invariant.0.long, (start_of l.before.before.before.before).requires.1)

add-i : tie.Need-overflow_add-i invariant-loop decreases-loop
add-i c = let l = c in omega (arith, c.loop-i-test.true, end_in l.before.before.before.before, few_classes _ _ _ _ (start_of l.before.before.before.before).requires.0)

loop-less : tie.Need-loop-i-smaller-then-classes-i-lt-LOWER invariant-loop decreases-loop
loop-less c = omega (arith, c.loop-i-test.true)

loop-again : tie.Need-loop-i-preserved-then-classes-i-lt-LOWER invariant-loop decreases-loop
loop-again c =
    let l = c in
    let h = c.loop-i-test.true in
    (numbering_number _ _ _ _ l.loop-i.invariant.0 (class_said l.before.before.before.before (lt-leb lower _ c.if-classes-i-lt-LOWER.true)) (omega (arith, h, end_in l.before.before.before.before, l.loop-i.invariant.0.long, (start_of l.before.before.before.before).requires.1)) _ c.magnitude_at.ensures, omega (arith, h))

add-i-2 : tie.Need-overflow_add-i-else-classes-i-lt-LOWER invariant-loop decreases-loop
add-i-2 c = let l = c in omega (arith, c.loop-i-test.true, end_in l.before.before.before, few_classes _ _ _ _ (start_of l.before.before.before).requires.0)

loop-less-2 : tie.Need-loop-i-smaller invariant-loop decreases-loop
loop-less-2 c = omega (arith, c.loop-i-test.true)

loop-again-2 : tie.Need-loop-i-preserved invariant-loop decreases-loop
loop-again-2 c =
    let l = c in
    (numbering_skip _ _ _ _ l.loop-i.invariant.0 (class_said l.before.before.before (le-leb lower _ c.if-classes-i-lt-LOWER.false)), omega (arith, c.loop-i-test.true))

same_length : tie.Need-shape_of-values invariant-loop decreases-loop
same_length c = c.loop-i.invariant.0.long

returns : tie.Need-returns invariant-loop decreases-loop
returns c =
    let l = c in
    (l.loop-i.invariant.0.long, numbering_end _ _ _ _ l.loop-i.invariant.0 (omega (arith, c.loop-i-test.false, l.loop-i.invariant.1, end_is l.before)))

pub fill_numbers_spec : {M : Type 1} → statement M
fill_numbers_spec =
    tie.close
    (tie.spec
    invariant-loop
    decreases-loop
    imports-end-requires
    loop-holds
    shared-slice-read-if1
    magnitude-at-requires
    mul-values
    slice-write-values
    add-i
    loop-less
    loop-again
    add-i-2
    loop-less-2
    loop-again-2
    same_length
    returns)
