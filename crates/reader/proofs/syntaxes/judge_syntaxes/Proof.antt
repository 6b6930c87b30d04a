-- `judge_syntaxes` is right: the rules are judged of the definitions with their classes.
-- Assumes nothing.
use mathlib.Core.Path.{ap, ◌∙◌}
use mathlib.Core.List.{List}
use Rattle.rule.specs.Rule.{judge}
use Rattle.enumeration.specs.Item.{spelling_in}
use Rattle.module_table.specs.declared.Definition.{Definition}
use Rattle.syntax_check.specs.Refusal.{rules_over}
use borrow.Author.Rules.{rules}
use Rattle.reader.proofs.syntaxes.judge_syntaxes.Statement.{statement}
use Rattle.reader.proofs.syntaxes.judge_syntaxes.Tie as tie

collect-classes-requires : tie.Need-collect_classes-requires
collect-classes-requires c κs = c.requires

judge-syntax-requires : tie.Need-judge_syntax-requires
judge-syntax-requires c κs = search rules

same_length : tie.Need-shape_of-definitions
same_length c = search rules

returns : tie.Need-returns
returns c =
    let s = c in
    let held = c.collect_classes.ensures.0 in
    record {
      held = held;
      judged =
          c.judge_syntax.ensures
          ∙ ap (λ (ds : List Definition). judge (rules_over (spelling_in s.args.text.now s.args.starts.now s.args.ends.now) s.args.classes.now s.args.values.now ds)) held;
    }

pub judge_syntaxes_spec : {M : Type 1} → statement M
judge_syntaxes_spec =
    tie.close (tie.spec
    collect-classes-requires
    judge-syntax-requires
    same_length
    returns)
