-- Refusal 16 on one restriction: what stands between its brackets, `s`. Places are the first tokens of ranges.
-- Assumes nothing.
use Rattle.std.specs.Prelude.{List, ℕ}
use Rattle.rule.specs.Rule.{Rule}
use Rattle.definition.specs.declared.Span.{Span}
use Rattle.sub_type.specs.Number.{end_in}
use Rattle.range_list.specs.Misplaced.{is_misplaced, misplaced_clause, misplaced_other}

-- 16: a range whose pair is wrong, or that shares a number with an earlier one
unfoldable pub misplaced_range : List ℕ → List ℕ → Span → Rule
misplaced_range cs vs s = record {
  number = 16;
  from = s.from;
  to = end_in cs s;
  breach = λ i. is_misplaced cs vs s.from i;
  place = λ i. i;
  clause = λ i. misplaced_clause cs vs i;
  other = λ i. misplaced_other cs vs s.from i;
}
