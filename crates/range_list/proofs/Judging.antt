-- What is judged of a list of ranges, by its first range that is misplaced.
-- Assumes nothing.
use mathlib.Core.Path.{◌≡◌, sym, ap, ◌∙◌}
use mathlib.Core.List.{List}
use Prim.Native.Nat.{ℕ, ◌≤◌, ◌<◌}
use native.Mathlib.Omega.{arith}
use Rattle.index.specs.First.{first}
use Rattle.index.proofs.Search.{first_from, first_holds, first_passed}
use Rattle.rule.specs.Rule.{finding, judge_one}
use Rattle.rule.specs.declared.Finding.{Finding}
use Rattle.rule.proofs.Judged.{never_broken, broken_at}
use Rattle.definition.specs.declared.Span.{Span}
use Rattle.sub_type.specs.Number.{end_in}
use Rattle.range_list.specs.Misplaced.{is_misplaced}
use Rattle.range_list.specs.Refusal.{misplaced_range}
use Rattle.std.specs.Prelude.{Ok, Err}

module _
    (cs vs : List ℕ) (s : Span) (token : ℕ)
    (is : token ≡ first (is_misplaced cs vs s.from) s.from (end_in cs s))
  where
    pub none_misplaced : end_in cs s ≤ token → Ok tt ≡ judge_one (misplaced_range cs vs s)
    unfolding misplaced_range
    none_misplaced end =
        never_broken (misplaced_range cs vs s)
        (λ i l h. first_passed (is_misplaced cs vs s.from) s.from (end_in cs s) i l (omega (arith, is)))

    pub one_misplaced : token < end_in cs s → (f : Finding) → f ≡ finding (misplaced_range cs vs (record { from = s.from; to = token })) token
        → Err f ≡ judge_one (misplaced_range cs vs s)
    unfolding misplaced_range
    one_misplaced h f found =
        let from : s.from ≤ token = omega (arith, is, first_from (is_misplaced cs vs s.from) s.from (end_in cs s)) in
        broken_at (misplaced_range cs vs s) f
        (record {
          index = token;
          inside = (from, h);
          found = sym found;
          breaks = ap (is_misplaced cs vs s.from) is ∙ first_holds (is_misplaced cs vs s.from) s.from (end_in cs s) (omega (arith, is)) (omega arith);
          none_before = λ i l k. first_passed (is_misplaced cs vs s.from) s.from (end_in cs s) i l (omega (arith, is));
        })
