-- `first_with` is right by the law of the loop that asks.
-- Assumes nothing.
use borrow.Author.Rules.{rules}
use mathlib.Core.Path.{sym, ◌∙◌}
use Prim.Native.Nat.{◌-◌}
use Rattle.module_table.specs.Definition.{definitions_in}
use Rattle.sequence_list.proofs.Asking.{Asking, asking_miss, first_asked, none_asked}
use Rattle.access_check.specs.Access.{has_access}
use Rattle.access_check.proofs.access.first_with.Statement.{statement}
use Rattle.access_check.proofs.access.first_with.Tie as tie

abbrev invariant-loop : tie.invariant-loop-i
invariant-loop values definitions access to i₀ i = Asking (has_access (definitions_in definitions) values access) i₀ to i

abbrev decreases-loop : tie.decreases-loop-i
decreases-loop values definitions access to i₀ i = to - i

loop-holds : tie.Need-loop-i-init invariant-loop decreases-loop
loop-holds c = search rules

has-access-requires : tie.Need-has_access-requires invariant-loop decreases-loop
has-access-requires c κs = search rules

returns : tie.Need-returns-then-has_access invariant-loop decreases-loop
returns c =
    let t = c in
    first_asked _ _ _ _ t.loop-i.invariant t.loop-i-test.true (sym c.has_access.ensures ∙ c.if-has_access.true)

add-i : tie.Need-overflow_add-i invariant-loop decreases-loop
add-i c = search rules

loop-less : tie.Need-loop-i-smaller invariant-loop decreases-loop
loop-less c = search rules

loop-again : tie.Need-loop-i-preserved invariant-loop decreases-loop
loop-again c =
    let t = c in
    asking_miss _ _ _ _ t.loop-i.invariant t.loop-i-test.true (sym c.has_access.ensures ∙ c.if-has_access.false)

returns-2 : tie.Need-returns invariant-loop decreases-loop
returns-2 c = none_asked _ _ _ _ c.loop-i.invariant c.loop-i-test.false

pub first_with_spec : {M : Type 1} → statement M
first_with_spec =
    tie.close
    (tie.spec
    invariant-loop
    decreases-loop
    loop-holds
    has-access-requires
    returns
    add-i
    loop-less
    loop-again
    returns-2)
