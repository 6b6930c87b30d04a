-- Laws of cutting bytes into items: one step at a time, from any place.
-- Assumes nothing.
use Prim.Native.Nat.{ℕ, zero, suc, ◌+◌, ◌-◌, ◌≤◌, ◌<◌}
use native.Mathlib.Nat.{sub-zero}
use native.Mathlib.Omega.{arith}
use mathlib.Core.Path.{◌≡◌, refl, sym, ap, ◌∙◌}
use mathlib.Core.Bool.{Bool, true, false}
use mathlib.Core.List.{List, [], ◌∷◌}
use lib.Dec.{leb}
use borrow.Author.Tests.{le-leb, lt-leb, leb-false}
use Rattle.character.specs.Cut.{Cut, whole, stuck, before, cut, cut_within, stuck_at}
use Rattle.std.proofs.Common.{Some}

whole_not_stuck : (places : List ℕ) (j : ℕ) → whole places ≡ stuck j → ⊥
whole_not_stuck places j h = let z : ◌≡◌ {A = ℕ} 0 1 = cc in omega arith

before_stuck : (i : ℕ) (c : Cut) (j : ℕ) → before i c ≡ stuck j → c ≡ stuck j
unfolding before
before_stuck i (whole places) j h = absurd (whole_not_stuck (i ∷ places) j h)
before_stuck i (stuck k) j h = h

module _ (size : ℕ → ℕ) (end : ℕ) where
  -- as many steps as are enough give the same cut
  within_enough : (j k i : ℕ) → end - i ≤ j → end - i ≤ k → cut_within j size end i ≡ cut_within k size end i
  unfolding cut_within
  within_enough zero zero i p q = refl
  within_enough zero (suc k) i p q = sym (rw (le-leb end i (omega arith), cut_within))
  within_enough (suc j) zero i p q = rw (le-leb end i (omega arith), cut_within)
  within_enough (suc j) (suc k) i p q =
      go (λ (m : ℕ) (r : end - m ≤ j) (s : end - m ≤ k). within_enough j k m r s) (leb end i) (size i) refl refl
    where
      go : ((m : ℕ) → end - m ≤ j → end - m ≤ k → cut_within j size end m ≡ cut_within k size end m)
          → (t : Bool) (n : ℕ) → leb end i ≡ t → size i ≡ n → cut_within (suc j) size end i ≡ cut_within (suc k) size end i
      go same true n e f = rw (e, cut_within)
      go same false zero e f = rw (e, f, cut_within)
      go same false (suc n) e f = rw (e, f, cut_within) (ap (before i) (same (i + suc n) (omega arith) (omega arith)))

  -- the cut from a place on
  abbrev pub from : ℕ → Cut
  from i = cut_within (end - i) size end i

  pub from_start : from 0 ≡ cut size end
  unfolding cut
  from_start = rw (sub-zero end)

  pub from_end : (i : ℕ) → end ≤ i → from i ≡ whole []
  unfolding cut_within
  from_end i h = within_enough (end - i) 0 i (omega arith) (omega arith)

  pub from_stuck : (i : ℕ) → i < end → size i ≡ 0 → from i ≡ stuck i
  unfolding cut_within
  from_stuck i h e = within_enough (end - i) (suc end) i (omega arith) (omega arith) ∙ rw (lt-leb end i h, e, cut_within)

  pub from_item : (i : ℕ) → i < end → 0 < size i → from i ≡ before i (from (i + size i))
  unfolding cut_within
  from_item i h l = go (size i) refl
    where
      go : (n : ℕ) → size i ≡ n → from i ≡ before i (from (i + size i))
      go zero e = absurd (omega arith)
      go (suc n) e =
          within_enough (end - i) (suc end) i (omega arith) (omega arith)
          ∙ rw (lt-leb end i h, e, cut_within)
          (ap (before i) (within_enough end (end - (i + suc n)) (i + suc n) (omega arith) (omega arith)))

  -- a cut is stuck before the end
  within_below : (k i j : ℕ) → cut_within k size end i ≡ stuck j → j < end
  unfolding cut_within
  within_below zero i j h = absurd (whole_not_stuck [] j h)
  within_below (suc k) i j h =
      go (λ (m : ℕ) (r : cut_within k size end m ≡ stuck j). within_below k m j r) (leb end i) (size i) refl refl
    where
      go : ((m : ℕ) → cut_within k size end m ≡ stuck j → j < end) → (t : Bool) (n : ℕ) → leb end i ≡ t → size i ≡ n → j < end
      go deeper true n e f = absurd (whole_not_stuck [] j (sym (rw (e, cut_within)) ∙ h))
      go deeper false zero e f =
          let at : stuck i ≡ stuck j = sym (rw (e, f, cut_within)) ∙ h in
          let same : i ≡ j = cc in
          omega (arith, leb-false end i e)
      go deeper false (suc n) e f = deeper (i + suc n) (before_stuck i _ j (sym (rw (e, f, cut_within)) ∙ h))

  pub stuck_below : (j : ℕ) → cut size end ≡ stuck j → j < end
  unfolding cut
  stuck_below j h = within_below end 0 j h

pub stuck_before : (i : ℕ) (c : Cut) → stuck_at (before i c) ≡ stuck_at c
unfolding stuck_at before
stuck_before i (whole places) = refl
stuck_before i (stuck j) = refl

pub stuck_there : (c : Cut) (i : ℕ) → stuck_at c ≡ Some i → c ≡ stuck i
unfolding stuck_at
stuck_there (whole places) i h = let z : ◌≡◌ {A = ℕ} 0 1 = cc in absurd (omega arith)
stuck_there (stuck j) i h = let e : j ≡ i = cc in ap stuck e
