-- `collect_verdicts` is right by the law of the loop that notes each list in turn.
-- Assumes nothing.
use borrow.Author.Rules.{rules}
use Prim.Native.Nat.{◌-◌}
use Rattle.module_table.specs.Definition.{definitions_in}
use Rattle.sequence_list.specs.Held.{places}
use Rattle.sequence_list.proofs.Verdicts.{Noting, noting_start, noting_next, noting_end}
use Rattle.sequence_list.proofs.verdict.collect_verdicts.Statement.{statement}
use Rattle.sequence_list.proofs.verdict.collect_verdicts.Tie as tie

abbrev invariant-loop : tie.invariant-loop-number
invariant-loop values definitions verdicts₀ parents₀ marks₀ number₀ verdicts parents marks number = Noting (definitions_in definitions) values verdicts parents marks number

abbrev decreases-loop : tie.decreases-loop-number
decreases-loop values definitions verdicts₀ parents₀ marks₀ number₀ verdicts parents marks number = places - number

loop-holds : tie.Need-loop-number-init invariant-loop decreases-loop
loop-holds c =
    let s = c in
    noting_start _ _ _ _ s.requires.0 s.requires.1

verdict-of-requires : tie.Need-verdict_of-requires invariant-loop decreases-loop
verdict-of-requires c κs = search rules

element-write-verdicts : tie.Need-bounds-verdicts-number invariant-loop decreases-loop
element-write-verdicts c = search rules

parent-named-requires : tie.Need-parent_named-requires invariant-loop decreases-loop
parent-named-requires c κs = search rules

mul-parents : tie.Need-offset_bounds-parents-number invariant-loop decreases-loop
mul-parents c = search rules

element-write-parents : tie.Need-bounds-parents-number invariant-loop decreases-loop
element-write-parents c = search rules

add-number : tie.Need-overflow_add-number invariant-loop decreases-loop
add-number c = search rules

loop-less : tie.Need-loop-number-smaller invariant-loop decreases-loop
loop-less c = search rules

loop-again : tie.Need-loop-number-preserved invariant-loop decreases-loop
loop-again c =
    let v = c in
    let t = v in
    let l = t in
    noting_next _ _ _ _ _ _ l.loop-number.invariant t.loop-number-test.true _ _ _ v.verdict_of.ensures c.parent_named.ensures

returns : tie.Need-returns invariant-loop decreases-loop
returns c = noting_end _ _ _ _ _ _ c.loop-number.invariant c.loop-number-test.false

pub collect_verdicts_spec : {M : Type 1} → statement M
collect_verdicts_spec =
    tie.close
    (tie.spec
    invariant-loop
    decreases-loop
    loop-holds
    verdict-of-requires
    element-write-verdicts
    parent-named-requires
    mul-parents
    element-write-parents
    add-number
    loop-less
    loop-again
    returns)
