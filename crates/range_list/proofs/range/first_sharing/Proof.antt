-- `first_sharing` is right by the law of searching loops.
-- Assumes nothing.
use mathlib.Core.Path.{◌≡◌, refl, sym, ◌∙◌}
use Prim.Native.Nat.{◌-◌}
use native.Mathlib.Numerals.{add-one}
use native.Mathlib.Omega.{arith}
use Rattle.index.specs.First.{first}
use Rattle.index.proofs.Search.{first_hit, first_miss, first_none}
use Rattle.range_list.specs.Misplaced.{is_sharing}
use borrow.Author.Rules.{rules}
use Rattle.range_list.proofs.range.first_sharing.Statement.{statement}
use Rattle.range_list.proofs.range.first_sharing.Tie as tie

abbrev invariant-loop : tie.invariant-loop-j
invariant-loop classes values to j₀ j = first (is_sharing classes values to) j to ≡ first (is_sharing classes values to) j₀ to

abbrev decreases-loop : tie.decreases-loop-j
decreases-loop classes values to j₀ j = to - j

loop-holds : tie.Need-loop-j-init invariant-loop decreases-loop
loop-holds c = refl

is-sharing-requires : tie.Need-is_sharing-requires invariant-loop decreases-loop
is-sharing-requires c κs = (c.requires, omega (arith, c.loop-j-test.true, c.requires))

returns : tie.Need-returns-then-is_sharing invariant-loop decreases-loop
returns c =
    let l = c in
    sym (first_hit _ _ _ c.loop-j-test.true (sym c.is_sharing.ensures ∙ c.if-is_sharing.true)) ∙ l.loop-j.invariant

add-j : tie.Need-overflow_add-j invariant-loop decreases-loop
add-j c = search rules

loop-less : tie.Need-loop-j-smaller invariant-loop decreases-loop
loop-less c = search rules

loop-again : tie.Need-loop-j-preserved invariant-loop decreases-loop
loop-again c =
    let l = c in
    rw (add-one l.loop-j.j) (sym (first_miss _ _ _ c.loop-j-test.true (sym c.is_sharing.ensures ∙ c.if-is_sharing.false)) ∙ l.loop-j.invariant)

returns-2 : tie.Need-returns invariant-loop decreases-loop
returns-2 c = sym (first_none _ _ _ c.loop-j-test.false) ∙ c.loop-j.invariant

pub first_sharing_spec : {M : Type 1} → statement M
first_sharing_spec =
    tie.close
    (tie.spec
    invariant-loop
    decreases-loop
    loop-holds
    is-sharing-requires
    returns
    add-j
    loop-less
    loop-again
    returns-2)
