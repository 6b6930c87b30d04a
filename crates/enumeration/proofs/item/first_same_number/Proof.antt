-- `first_same_number` is right by the law of searching loops.
-- Assumes nothing.
use Rattle.enumeration.specs.Item.{has_number}
use Rattle.index.proofs.Search.{first_hit, first_miss, first_none}
use Rattle.index.specs.First.{first}
use borrow.Author.Rules.{rules}
use native.Mathlib.Omega.{arith}
use native.Mathlib.Numerals.{add-one}
use Prim.Native.Nat.{◌-◌}
use mathlib.Core.Path.{◌≡◌, refl, sym, ◌∙◌}
use Rattle.enumeration.proofs.item.first_same_number.Statement.{statement}
use Rattle.enumeration.proofs.item.first_same_number.Tie as tie

abbrev invariant-loop : tie.invariant-loop-j
invariant-loop classes values to j₀ j = first (has_number classes values to) j to ≡ first (has_number classes values to) j₀ to

abbrev decreases-loop : tie.decreases-loop-j
decreases-loop classes values to j₀ j = to - j

loop-holds : tie.Need-loop-j-init invariant-loop decreases-loop
loop-holds c = refl

has-number-requires : tie.Need-has_number-requires invariant-loop decreases-loop
has-number-requires c κs = (c.requires, omega (arith, c.loop-j-test.true, c.requires))

returns : tie.Need-returns-then-has_number invariant-loop decreases-loop
returns c =
    let l = c in
    sym (first_hit _ _ _ c.loop-j-test.true (sym c.has_number.ensures ∙ c.if-has_number.true)) ∙ l.loop-j.invariant

add-j : tie.Need-overflow_add-j invariant-loop decreases-loop
add-j c = search rules

loop-less : tie.Need-loop-j-smaller invariant-loop decreases-loop
loop-less c = search rules

loop-again : tie.Need-loop-j-preserved invariant-loop decreases-loop
loop-again c =
    let l = c in
    rw (add-one l.loop-j.j) (sym (first_miss _ _ _ c.loop-j-test.true (sym c.has_number.ensures ∙ c.if-has_number.false)) ∙ l.loop-j.invariant)

returns-2 : tie.Need-returns invariant-loop decreases-loop
returns-2 c = sym (first_none _ _ _ c.loop-j-test.false) ∙ c.loop-j.invariant

pub first_same_number_spec : {M : Type 1} → statement M
first_same_number_spec =
    tie.close
    (tie.spec
    invariant-loop
    decreases-loop
    loop-holds
    has-number-requires
    returns
    add-j
    loop-less
    loop-again
    returns-2)
