-- Rules in a row, each asked where those before it are kept.
-- Assumes nothing.
use mathlib.Core.Path.{◌≡◌, refl, sym, ◌∙◌}
use mathlib.Core.List.{List, [], ◌∷◌, ◌++◌}
use Prim.Native.Nat.{ℕ}
use native.Mathlib.Omega.{arith}
use Rattle.rule.specs.Rule.{Rule, and_then, judge_one, judge, Judgement}
use Rattle.rule.specs.declared.Finding.{Finding}
use Rattle.rule.proofs.Judged.{judge_row, judge_alone, kept_next, broken_first}
use Rattle.std.specs.Prelude.{Ok, Err}

module _ (r s t : Rule) (i : Judgement) (is : i ≡ judge_one r) where
  pub first_of_three : (f : Finding) → i ≡ Err f → i ≡ judge (r ∷ s ∷ t ∷ [])
  first_of_three f e = broken_first r (s ∷ t ∷ []) i is f e

  module _ (kept : i ≡ Ok tt) (j : Judgement) (next : j ≡ judge_one s) where
    pub second_of_three : (f : Finding) → j ≡ Err f → j ≡ judge (r ∷ s ∷ t ∷ [])
    second_of_three f e = broken_first s (t ∷ []) j next f e ∙ sym (kept_next r (s ∷ t ∷ []) i is kept)

    pub third_of_three : j ≡ Ok tt → (k : Judgement) → k ≡ judge_one t → k ≡ judge (r ∷ s ∷ t ∷ [])
    third_of_three too k last =
        last ∙ judge_alone t ∙ sym (kept_next s (t ∷ []) j next too) ∙ sym (kept_next r (s ∷ t ∷ []) i is kept)

-- where all of a row are kept, each part is
pub first_kept : (r : Rule) (rs : List Rule) → judge (r ∷ rs) ≡ Ok tt → (judge_one r ≡ Ok tt) × (judge rs ≡ Ok tt)
unfolding judge
first_kept r rs e = go (judge_one r) refl e
  where
    go : (j : Judgement) → judge_one r ≡ j → and_then j (judge rs) ≡ Ok tt → (judge_one r ≡ Ok tt) × (judge rs ≡ Ok tt)
    go (Ok _) is kept = (is, kept)
    go (Err f) is kept = let z : ◌≡◌ {A = ℕ} 0 1 = cc in absurd (omega arith)

pub both_kept : (rs ss : List Rule) → judge (rs ++ ss) ≡ Ok tt → (judge rs ≡ Ok tt) × (judge ss ≡ Ok tt)
both_kept rs ss e = go (judge rs) refl (sym (judge_row rs ss) ∙ e)
  where
    go : (j : Judgement) → judge rs ≡ j → and_then j (judge ss) ≡ Ok tt → (judge rs ≡ Ok tt) × (judge ss ≡ Ok tt)
    go (Ok _) is kept = (is, kept)
    go (Err f) is kept = let z : ◌≡◌ {A = ℕ} 0 1 = cc in absurd (omega arith)
