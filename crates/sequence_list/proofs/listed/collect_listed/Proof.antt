-- `collect_listed` is right: each list in turn marks what it names.
-- Assumes nothing.
use borrow.Author.Rules.{rules}
use Prim.Native.Nat.{◌-◌, ◌≤◌}
use native.Mathlib.Omega.{arith}
use Rattle.module_table.specs.Definition.{definitions_in}
use Rattle.sequence_list.specs.Held.{places}
use Rattle.sequence_list.proofs.Listing.{ListedBelow, below_start, below_next, below_end}
use Rattle.sequence_list.proofs.listed.collect_listed.Statement.{statement}
use Rattle.sequence_list.proofs.listed.collect_listed.Tie as tie

abbrev invariant-loop : tie.invariant-loop-number
invariant-loop values definitions listed₀ number₀ listed number = (number ≤ places) × ListedBelow (definitions_in definitions) values listed number

abbrev decreases-loop : tie.decreases-loop-number
decreases-loop values definitions listed₀ number₀ listed number = places - number

loop-holds : tie.Need-loop-number-init invariant-loop decreases-loop
loop-holds c =
    let s = c in
    (omega arith, below_start _ _ _ s.requires.0 s.requires.1)

mark-listed-requires : tie.Need-mark_listed-requires invariant-loop decreases-loop
mark-listed-requires c κs = search rules

add-number : tie.Need-overflow_add-number invariant-loop decreases-loop
add-number c = search rules

loop-less : tie.Need-loop-number-smaller invariant-loop decreases-loop
loop-less c = search rules

loop-again : tie.Need-loop-number-preserved invariant-loop decreases-loop
loop-again c =
    let t = c in
    let l = t in
    (omega (arith, t.loop-number-test.true), below_next _ _ _ _ _ l.loop-number.invariant.1 c.mark_listed.ensures)

returns : tie.Need-returns invariant-loop decreases-loop
returns c =
    let l = c in
    below_end _ _ _ _ l.loop-number.invariant.1 c.loop-number-test.false

pub collect_listed_spec : {M : Type 1} → statement M
collect_listed_spec =
    tie.close
    (tie.spec
    invariant-loop
    decreases-loop
    loop-holds
    mark-listed-requires
    add-number
    loop-less
    loop-again
    returns)
