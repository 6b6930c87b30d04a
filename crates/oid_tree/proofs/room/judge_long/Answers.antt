-- `judge_long` judges each definition in turn.
-- Assumes nothing.
use Rattle.std.proofs.Common.{rules, refl, sym}
use Rattle.rule.proofs.Each.{judged_at}
use Rattle.module_table.specs.Definition.{definitions_in}
use Rattle.oid_tree.specs.Refusal.{long_by_count}
use Rattle.oid_tree.proofs.room.judge_long.Goals as goal

pub returns : goal.returns
unfolding long_by_count
returns c = judged_at (long_by_count (definitions_in c.args.definitions.now)) _ _ _ c.judge_each.ensures refl (sym c.count.ensures) (λ k l h j says. search rules)
