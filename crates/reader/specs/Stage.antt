-- What the steps of reading a derived module leave in the slices that are lent: each step judges its rules, and fills its columns.
-- Assumes nothing.
use Rattle.std.specs.Prelude.{◌≡◌, List, ℕ}
use Rattle.rule.specs.Rule.{judge, Judgement}
use Rattle.module_table.specs.Definition.{definitions_in}
use Rattle.object_tree.specs.Tree.{parents_added}
use Rattle.type_class.specs.Stage.{definitions_classed}
use Rattle.enumeration.specs.Item.{spelling_in}
use Rattle.syntax_check.specs.Refusal.{rules_over}
use Rattle.reader.specs.Reading.{object_rules}

-- the words hold the definitions with their classes, and the rules are judged by these
pub record Classed (text starts ends classes values : List ℕ) (r : Judgement) (words words' : List ℕ) : Type 0 where
  pub held : definitions_in words' ≡ definitions_classed classes values (definitions_in words)
  pub judged : r ≡ judge (rules_over (spelling_in text starts ends) classes values (definitions_classed classes values (definitions_in words)))

-- the words hold the definitions with their parents, and the rules are judged by these
pub record Related (values numbers : List ℕ) (r : Judgement) (words words' : List ℕ) : Type 0 where
  pub held : definitions_in words' ≡ parents_added numbers (definitions_in words)
  pub judged : r ≡ judge (object_rules (parents_added numbers (definitions_in words)) values numbers)
