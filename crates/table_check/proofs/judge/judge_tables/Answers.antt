-- `judge_tables` is right by the law of the loop that judges a rule.
-- Assumes nothing.
use lib.Dec.{ltb}
use Rattle.std.proofs.Common.{refl, sym, ap, ◌≡◌, ◌∙◌, arith}
use Rattle.rule.proofs.Judged.{judging_start, judging_next, judging_broken, judging_kept}
use Rattle.module_table.specs.Definition.{definitions_in}
use Rattle.table_check.specs.Refusal.{clause_of, table_broken}
use Rattle.table_check.specs.Found.{found}
use Rattle.table_check.proofs.Picked.{clause_picked, picked_same, nonzero_breach, zero_kept}
use Rattle.table_check.proofs.judge.judge_tables.Goals as goal

pub loop-k-init : goal.loop-k-init
unfolding table_broken
loop-k-init c = judging_start (table_broken (definitions_in c.args.definitions.now) c.args.values.now c.args.numbers.now) refl (sym c.count-k-end.ensures)

pub returns-then-clause-ne0 : goal.returns-then-clause-ne0
unfolding table_broken
returns-then-clause-ne0 c =
    let row = c.collect_row_clauses.ensures.entry c.loop-k.k (omega (arith, c.loop-k-test.true, c.count-k-end.ensures)) in
    let name = c.collect_name_clauses.ensures.entry c.loop-k.k (omega (arith, c.loop-k-test.true, c.count-k-end.ensures)) in
    let is : c.picked-clause.result ≡ clause_of (definitions_in c.args.definitions.now) c.args.values.now c.args.numbers.now c.loop-k.k =
    c.picked-clause.ensures ∙ picked_same c.definition_at.ensures row name ∙ clause_picked (definitions_in c.args.definitions.now) c.args.values.now c.args.numbers.now c.loop-k.k in
    judging_broken c.loop-k.invariant c.loop-k-test.true (ap (ltb 0) is) (nonzero_breach _ c.if-clause-ne0.true) _
    (c.found.ensures ∙ ap (found (definitions_in c.args.definitions.now) c.args.values.now c.loop-k.k) is)

pub loop-k-preserved : goal.loop-k-preserved
unfolding table_broken
loop-k-preserved c =
    let row = c.collect_row_clauses.ensures.entry c.loop-k.k (omega (arith, c.loop-k-test.true, c.count-k-end.ensures)) in
    let name = c.collect_name_clauses.ensures.entry c.loop-k.k (omega (arith, c.loop-k-test.true, c.count-k-end.ensures)) in
    let is : c.picked-clause.result ≡ clause_of (definitions_in c.args.definitions.now) c.args.values.now c.args.numbers.now c.loop-k.k =
    c.picked-clause.ensures ∙ picked_same c.definition_at.ensures row name ∙ clause_picked (definitions_in c.args.definitions.now) c.args.values.now c.args.numbers.now c.loop-k.k in
    judging_next c.loop-k.invariant c.loop-k-test.true (ap (ltb 0) is) (zero_kept _ c.if-clause-ne0.false)

pub returns : goal.returns
returns c = judging_kept c.loop-k.invariant c.loop-k-test.false
