-- Refusal 17 on one restriction: what stands between its brackets, `s`. Places are the first tokens of ranges.
-- Assumes nothing.
use Rattle.std.specs.Prelude.{List, ℕ, cond, ltb, Ok, Err}
use Rattle.rule.specs.Rule.{Rule, Judgement}
use Rattle.definition.specs.declared.Span.{Span}
use Rattle.sub_type.specs.Number.{end_in}
use Rattle.sub_type.specs.Range.{limit_clause}
use Rattle.sub_type.specs.declared.Limits.{Limits}

-- 17: a range outside the limits
unfoldable pub limit_rule : List ℕ → List ℕ → Limits → Span → Rule
limit_rule cs vs limits s = record {
  number = 17;
  from = s.from;
  to = end_in cs s;
  breach = λ i. ltb 0 (limit_clause cs vs limits i);
  place = λ i. i;
  clause = λ i. limit_clause cs vs limits i;
  other = λ i. i;
}

-- what it says of the range at token i
abbrev pub judge_limit_at : List ℕ → List ℕ → Limits → ℕ → Judgement
judge_limit_at cs vs limits i =
    cond (ltb 0 (limit_clause cs vs limits i)) (Err (record { number = 17; clause = limit_clause cs vs limits i; token = record { 0 = i }; other = record { 0 = i } })) (Ok tt)
