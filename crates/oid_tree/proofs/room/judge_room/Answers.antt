-- `judge_room` is right by the law of the loop that judges a rule.
-- Assumes nothing.
use Rattle.std.proofs.Common.{refl, sym, ◌∙◌, ap, add-one, arith}
use Rattle.rule.proofs.Judged.{judging_start, judging_next, judging_broken, judging_kept}
use Rattle.module_table.specs.Definition.{definitions_in}
use Rattle.oid_tree.specs.Refusal.{counts_before, room_by_count}
use Rattle.oid_tree.proofs.Counted.{counts_more, room_passed, room_left}
use Rattle.oid_tree.proofs.room.judge_room.Goals as goal

pub loop-k-init : goal.loop-k-init
unfolding room_by_count counts_before
loop-k-init c = (judging_start (room_by_count (definitions_in c.args.definitions.now)) refl (sym c.count-k-end.ensures), refl, omega arith)

pub overflow_sub-total : goal.overflow_sub-total
overflow_sub-total c = omega (arith, c.loop-k.invariant.2)

pub returns-then-total-own : goal.returns-then-total-own
unfolding room_by_count
returns-then-total-own c =
    let i = c.loop-k.invariant in
    judging_broken i.0 c.loop-k-test.true refl (room_passed _ _ _ c.definition_at-own.ensures _ i.1 i.2 c.if-total-own.true) _ c.finding_at.ensures

pub loop-k-preserved : goal.loop-k-preserved
loop-k-preserved c =
    let i = c.loop-k.invariant in (
      judging_next i.0 c.loop-k-test.true refl (room_left _ _ _ c.definition_at-own.ensures _ i.1 i.2 c.if-total-own.false),
      counts_more _ _ _ c.definition_at-own.ensures _ i.1 ∙ ap (counts_before (definitions_in c.args.definitions.now)) (sym (add-one c.loop-k.k)),
      omega (arith, c.if-total-own.false, i.2),
    )

pub returns : goal.returns
unfolding room_by_count
returns c = judging_kept c.loop-k.invariant.0 c.loop-k-test.false
