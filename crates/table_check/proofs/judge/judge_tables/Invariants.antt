-- `judge_tables` judges one rule at each definition.
-- Assumes nothing.
use Rattle.rule.proofs.Judged.{Judging}
use Rattle.module_table.specs.Definition.{definitions_in}
use Rattle.table_check.specs.Refusal.{table_broken}
use Rattle.table_check.proofs.judge.judge_tables.Given as goal

abbrev pub invariant-loop-k : goal.invariant-loop-k
invariant-loop-k l = Judging (table_broken (definitions_in l.definitions) l.values l.numbers) l.k-end l.k
