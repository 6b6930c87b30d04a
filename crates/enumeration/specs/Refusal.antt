-- Refusal 18 on one enumeration: what stands between its braces, `s`. Places are labels.
-- Assumes nothing.
use Rattle.std.specs.Prelude.{List, ℕ, ltb}
use Rattle.rule.specs.Rule.{Rule}
use Rattle.definition.specs.declared.Span.{Span}
use Rattle.sub_type.specs.Number.{end_in}
use Rattle.sub_type.specs.declared.Limits.{Limits}
use Rattle.enumeration.specs.Item.{Spelling, item_clause, item_other}

-- 18: a label twice, or a number, against the first item that has it; or a number outside the limits
unfoldable pub item_rule : Spelling → List ℕ → List ℕ → Limits → Span → Rule
item_rule x cs vs limits s = record {
  number = 18;
  from = s.from;
  to = end_in cs s;
  breach = λ i. ltb 0 (item_clause x cs vs limits s.from i);
  place = λ i. i;
  clause = λ i. item_clause x cs vs limits s.from i;
  other = λ i. item_other x cs vs s.from i;
}
