-- `judge_twins` judges one rule at each definition; those that it has passed are chained.
-- Assumes nothing.
use Rattle.rule.proofs.Judged.{Judging}
use Rattle.chain.specs.Chain.{Chained}
use Rattle.module_table.specs.Definition.{definitions_in}
use Rattle.oid_holder.specs.Holder.{held_twice, key_at}
use Rattle.oid_holder.proofs.judge_twins.Given as goal

abbrev pub invariant-loop-k : goal.invariant-loop-k
invariant-loop-k l =
    Judging (held_twice (definitions_in l.definitions) l.numbers) l.k-end l.k
    × Chained (key_at (definitions_in l.definitions) l.numbers) l.k l.heads l.links
