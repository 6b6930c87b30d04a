-- Rule 16 is kept between some brackets exactly where each pair's low is below its high and no number lies in two ranges; and what it says
-- of the lists that the request names.
-- Assumes nothing.
use mathlib.Core.Path.{◌≡◌, refl, sym, ◌∙◌}
use mathlib.Core.Bool.{true, false}
use mathlib.Core.List.{[], ◌∷◌}
use Prim.Native.Nat.{ℕ, ◌<◌}
use native.Mathlib.Decide.{dec_lt}
use native.Mathlib.Omega.{arith}
use lib.IntN.{ℤ}
use lib.Signed.{lt_z}
use Rattle.index.specs.First.{first_of, first, any}
use Rattle.index.proofs.Search.{true_false, answers}
use Rattle.rule.specs.Rule.{judge_one}
use Rattle.rule.proofs.Judged.{judged_kept, judge_alone, never_broken}
use Rattle.definition.specs.declared.Span.{Span}
use Rattle.module_table.specs.Module.{Module}
use Rattle.sub_type.specs.Range.{starts_range, low, high}
use Rattle.range_list.specs.Misplaced.{is_backward, is_below, shares, is_misplaced}
use Rattle.range_list.specs.Refusal.{misplaced_range}
use Rattle.statements.specs.Breach.{Within, LiesIn, Misplaced, wrong_pair, shared}
use Rattle.statements.specs.Ranges.{Apart, RangesInAnyOrder}
use Rattle.statements.proofs.Tests.{fails}
use Rattle.statements.proofs.SyntaxBreaches.{place_told, place_breach}
use Rattle.std.specs.Prelude.{Ok}

module _ (m : Module) (s : Span) where
  -- no range is misplaced
  abbrev NonePlaced : Type 0
  NonePlaced = (i : ℕ) → Within m s i → is_misplaced m.classes m.values s.from i ≡ false

  none_of : judge_one (misplaced_range m.classes m.values s) ≡ Ok tt → NonePlaced
  unfolding misplaced_range
  none_of e i w =
      (judged_kept (misplaced_range m.classes m.values s ∷ []) (sym (judge_alone (misplaced_range m.classes m.values s)) ∙ e)).0 i w.0 w.1

  of_none : NonePlaced → judge_one (misplaced_range m.classes m.values s) ≡ Ok tt
  unfolding misplaced_range
  of_none none = sym (never_broken (misplaced_range m.classes m.values s) (λ i l h. none i (l, h)))

  module _ (none : NonePlaced) where
    refused : (i : ℕ) → Within m s i → starts_range m.classes i ≡ true → Misplaced m s i → ⊥
    refused i w b x = true_false (place_breach m s i b x) (none i w)

    of_two : (i j : ℕ) (z : ℤ) → Within m s i → Within m s j → starts_range m.classes i ≡ true → starts_range m.classes j ≡ true
        → LiesIn m i z → LiesIn m j z → Dec (i < j) → Dec (j < i) → i ≡ j
    of_two i j z v w a b p q (yes l) d = absurd (refused j w b (shared i z v.0 l a p q))
    of_two i j z v w a b p q (no n) (yes l) = absurd (refused i v a (shared j z w.0 l b q p))
    of_two i j z v w a b p q (no n) (no k) = omega arith

    none_apart : Apart m s
    none_apart = record {
      pairs = λ i w b is.
          answers (lt_z (low m.classes m.values i) (high m.classes m.values i)) (λ t. t) (λ f. absurd (refused i w b (wrong_pair is f)));
      once = λ i j z v w a b p q. of_two i j z v w a b p q (dec_lt i j) (dec_lt j i);
    }

  module _ (x : Apart m s) where
    not_so : (i : ℕ) → Within m s i → starts_range m.classes i ≡ true → Misplaced m s i → ⊥
    not_so i w b (wrong_pair is f) = true_false (x.pairs i w b is) f
    not_so i w b (shared j z l h a p q) =
        let same = x.once j i z (l, omega (arith, w.1)) w a b p q in
        omega (arith, same)

    apart_none : NonePlaced
    apart_none i w = fails _ (λ e. let t = place_told m s i e in not_so i w t.0 t.1)

pub ranges_in_any_order : RangesInAnyOrder
unfolding judge_one first_of first any starts_range is_backward is_below shares is_misplaced misplaced_range
ranges_in_any_order = record {
  apart = λ m s. (λ e. none_apart m s (none_of m s e), λ x. of_none m s (apart_none m s x));
  touching = refl;
  falling = refl;
  requested = refl;
}
