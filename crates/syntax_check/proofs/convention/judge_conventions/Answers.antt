-- `judge_conventions` judges each definition in turn.
-- Assumes nothing.
use Rattle.std.proofs.Common.{rules, refl, sym}
use Rattle.rule.proofs.Each.{judged_at}
use Rattle.module_table.specs.Definition.{definitions_in}
use Rattle.syntax_check.specs.Refusal.{indirect_convention}
use Rattle.syntax_check.proofs.convention.judge_conventions.Goals as goal

pub returns : goal.returns
returns c =
    judged_at (indirect_convention c.args.classes.now c.args.values.now (definitions_in c.args.definitions.now)) _ _ _ c.judge_each.ensures refl (sym c.count.ensures) (λ k l h j says. search rules)
