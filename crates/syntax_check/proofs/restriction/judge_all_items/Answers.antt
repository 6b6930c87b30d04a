-- `judge_all_items` judges each definition in turn, each by a rule of its own.
-- Assumes nothing.
use Rattle.std.proofs.Common.{rules, ap, ◌∙◌}
use Rattle.rule.proofs.Each.{judged_each}
use Rattle.rule.specs.Rule.{judge, each}
use Rattle.enumeration.specs.Item.{spelling_in}
use Rattle.module_table.specs.Definition.{definitions_in}
use Rattle.syntax_check.specs.Refusal.{item_rule_of}
use Rattle.syntax_check.proofs.restriction.judge_all_items.Goals as goal

pub returns : goal.returns
returns c =
    judged_each (item_rule_of (spelling_in c.args.text.now c.args.starts.now c.args.ends.now) c.args.classes.now c.args.values.now (definitions_in c.args.definitions.now)) _ _ _ c.judge_each.ensures (λ k l h j says. search rules)
    ∙ ap (λ n. judge (each (item_rule_of (spelling_in c.args.text.now c.args.starts.now c.args.ends.now) c.args.classes.now c.args.values.now (definitions_in c.args.definitions.now)) 0 n)) c.count.ensures
