-- `next_beginning` is right by the law of searching loops.
-- Assumes nothing.
use mathlib.Core.Path.{◌≡◌, sym, ap, ◌∙◌}
use mathlib.Core.Bool.{Bool}
use mathlib.Core.List.{List}
use Prim.Native.Nat.{ℕ, ◌-◌, ◌≤◌}
use native.Mathlib.Omega.{arith}
use lib.ListN.{length, take}
use lib.Seq.{take-length}
use Rattle.index.proofs.Search.{Searched, searched_start, searched_miss, searched_hit, searched_end}
use Rattle.definition.specs.Landmark.{begins, last_token}
use Rattle.outline.proofs.next_beginning.Statement.{statement}
use Rattle.outline.proofs.next_beginning.Tie as tie

abbrev invariant-loop : tie.invariant-loop-i
invariant-loop classes a i₀ i = Searched (begins classes) a (last_token classes) i × (i ≤ last_token classes)

abbrev decreases-loop : tie.decreases-loop-i
decreases-loop classes a i₀ i = length classes - i

loop-holds : tie.Need-loop-i-init invariant-loop decreases-loop
loop-holds c = (searched_start _ _ _ c.requires.1, c.requires.1)

add-loop : tie.Need-overflow_add-i invariant-loop decreases-loop
add-loop c = omega (arith, c.requires.0, c.loop-i.invariant.1)

begins-requires : tie.Need-begins-requires invariant-loop decreases-loop
begins-requires c κs =
    let s = c in
    (omega arith, omega (arith, s.requires.0, c.loop-i-test.true))

-- what the test answers
answer : (cs : List ℕ) (i : ℕ) (r : Bool) {b : Bool} → r ≡ begins (take (length cs) cs) i → r ≡ b → begins cs i ≡ b
answer cs i r e q = sym (ap (λ (l : List ℕ). begins l i) (take-length cs)) ∙ sym e ∙ q

returns : tie.Need-returns-then-begins invariant-loop decreases-loop
returns c =
    let l = c in
    let s = l in
    searched_hit _ _ _ _ l.loop-i.invariant.0 (omega (arith, c.loop-i-test.true)) (answer _ _ _ c.begins.ensures c.if-begins.true)

add-i : tie.Need-overflow_add-i-in-loop-i invariant-loop decreases-loop
add-i c = omega (arith, c.loop-i.invariant.1)

loop-less : tie.Need-loop-i-smaller invariant-loop decreases-loop
loop-less c = omega arith

loop-again : tie.Need-loop-i-preserved invariant-loop decreases-loop
loop-again c =
    let l = c in
    let s = l in
    (searched_miss _ _ _ _ l.loop-i.invariant.0 (omega (arith, c.loop-i-test.true)) (answer _ _ _ c.begins.ensures c.if-begins.false), omega (arith, c.loop-i-test.true))

returns-2 : tie.Need-returns invariant-loop decreases-loop
returns-2 c =
    let l = c in
    let end : l.loop-i.i ≡ last_token l.args.classes.now = omega (arith, l.loop-i.invariant.1, c.loop-i-test.false) in
    end ∙ searched_end _ _ _ _ l.loop-i.invariant.0 (omega (arith, c.loop-i-test.false))

pub next_beginning_spec : {M : Type 1} → statement M
next_beginning_spec =
    tie.close
    (tie.spec
    invariant-loop
    decreases-loop
    loop-holds
    add-loop
    begins-requires
    returns
    add-i
    loop-less
    loop-again
    returns-2)
