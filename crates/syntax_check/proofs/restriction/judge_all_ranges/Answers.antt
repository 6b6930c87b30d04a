-- `judge_all_ranges` judges each definition in turn, each by a rule of its own.
-- Assumes nothing.
use Rattle.std.proofs.Common.{rules, ap, ◌∙◌}
use Rattle.rule.proofs.Each.{judged_each}
use Rattle.rule.specs.Rule.{judge, each}
use Rattle.module_table.specs.Definition.{definitions_in}
use Rattle.syntax_check.specs.Refusal.{range_rule_of}
use Rattle.syntax_check.proofs.restriction.judge_all_ranges.Goals as goal

pub returns : goal.returns
returns c =
    judged_each (range_rule_of c.args.classes.now c.args.values.now (definitions_in c.args.definitions.now) c.args.demand) _ _ _ c.judge_each.ensures (λ k l h j says. search rules)
    ∙ ap (λ n. judge (each (range_rule_of c.args.classes.now c.args.values.now (definitions_in c.args.definitions.now) c.args.demand) 0 n)) c.count.ensures
