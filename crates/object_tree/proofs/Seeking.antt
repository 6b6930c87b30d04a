-- The walk along a chain that seeks the last entry where a test holds: it passes none.
-- Assumes nothing.
use mathlib.Core.Path.{◌≡◌, refl, sym, ap, ◌∙◌}
use mathlib.Core.Bool.{Bool, true, false}
use mathlib.Core.List.{List}
use Prim.Native.Nat.{ℕ, zero, suc, ◌≤◌, ◌<◌}
use native.Mathlib.Decide.{ℕ_discrete}
use native.Mathlib.Omega.{arith}
use lib.Dec.{eqb}
use lib.ListN.{get_or}
use borrow.Author.Tests.{eq-eqb, eqb-true}
use Rattle.index.proofs.Search.{true_false, answers}
use Rattle.chain.specs.Chain.{last_before, Chained, key_count}
use Rattle.chain.proofs.Chain.{last_inside, last_holds, last_passed}

module _ (test : ℕ → Bool) where
  last_hit : (k : ℕ) → test k ≡ true → last_before test (suc k) ≡ suc k
  unfolding last_before
  last_hit k e = rw e

  last_miss : (k : ℕ) → test k ≡ false → last_before test (suc k) ≡ last_before test k
  unfolding last_before
  last_miss k e = rw e

  -- it is the same up to an index from which on the test holds nowhere
  last_shorter : (a b : ℕ) → a ≤ b → ((i : ℕ) → a ≤ i → i < b → test i ≡ false) → last_before test a ≡ last_before test b
  last_shorter a zero l none = let is : a ≡ 0 = omega arith in ap (last_before test) is
  last_shorter a (suc b) l none = go (ℕ_discrete a (suc b)) (λ m. last_shorter a b m (λ i n h. none i n (omega arith)))
    where
      go : Dec (a ≡ suc b) → (a ≤ b → last_before test a ≡ last_before test b) → last_before test a ≡ last_before test (suc b)
      go (yes same) before = ap (last_before test) same
      go (no other) before = before (omega arith) ∙ sym (last_miss b (none b (omega arith) (omega arith)))

  last_none : last_before test 0 ≡ 0
  unfolding last_before
  last_none = refl

  -- where it holds nowhere there is none
  pub last_nowhere : (k : ℕ) → ((i : ℕ) → i < k → test i ≡ false) → 0 ≡ last_before test k
  last_nowhere k none = sym last_none ∙ last_shorter 0 k (omega arith) (λ i l h. none i h)

-- the walk seeks among the first k entries, and is at an entry, counted from 1: none that passes is left behind
pub record Seeking (key : ℕ → ℕ) (t : ℕ → Bool) (h k at : ℕ) : Type 0 where
  pub inside : at ≤ k
  pub left : last_before t at ≡ last_before t k
  pub own : (j : ℕ) → at ≡ suc j → key j ≡ h

-- all entries that pass are of the key
module _ (key : ℕ → ℕ) (t : ℕ → Bool) (h k : ℕ) (alike : (i : ℕ) → i < k → t i ≡ true → key i ≡ h) where
  -- the last entry of the key before an index is the next to look at
  seek_to : (b : ℕ) → b ≤ k → last_before t b ≡ last_before t k → (at : ℕ) → at ≡ last_before (λ (j : ℕ). eqb (key j) h) b → Seeking key t h k at
  seek_to b l left at is = record {
    inside = omega (arith, is, last_inside (λ (j : ℕ). eqb (key j) h) b);
    left = last_shorter t at b (omega (arith, is, last_inside (λ (j : ℕ). eqb (key j) h) b)) passed ∙ left;
    own = λ j e. eqb-true (key j) h (last_holds (λ (j : ℕ). eqb (key j) h) b j (sym is ∙ e));
  }
    where
      passed : (i : ℕ) → at ≤ i → i < b → t i ≡ false
      passed i m n =
          answers (t i)
          (λ e. absurd (true_false (eq-eqb (key i) h (alike i (omega arith) e)) (last_passed (λ (j : ℕ). eqb (key j) h) b i (omega (arith, is)) n)))
          (λ e. e)

  module _ (heads links : List ℕ) (c : Chained key k heads links) where
    -- it starts at the key's head
    pub seeking_start : h < key_count → (at : ℕ) → at ≡ get_or heads h 0 → Seeking key t h k at
    seeking_start few at is = seek_to k (omega arith) refl at (is ∙ c.head h few)

    -- an entry that doesn't pass is left by its link, to an earlier one
    module _ (at j : ℕ) (w : Seeking key t h k at) (here : at ≡ suc j) where
      own_link : get_or links j 0 ≡ last_before (λ (i : ℕ). eqb (key i) h) j
      own_link = c.link j (omega (arith, w.inside)) ∙ ap (λ (x : ℕ). last_before (λ (i : ℕ). eqb (key i) x) j) (w.own j here)

      pub seeking_falls : get_or links j 0 < at
      seeking_falls = omega (arith, own_link, last_inside (λ (i : ℕ). eqb (key i) h) j)

      pub seeking_next : t j ≡ false → (next : ℕ) → next ≡ get_or links j 0 → Seeking key t h k next
      seeking_next e next is =
          seek_to j (omega (arith, w.inside)) (sym (last_miss t j e) ∙ sym (ap (last_before t) here) ∙ w.left) next (is ∙ own_link)

-- one that passes is the last
pub seeking_hit : {key : ℕ → ℕ} {t : ℕ → Bool} {h k at : ℕ} → Seeking key t h k at → (j : ℕ) → at ≡ suc j → t j ≡ true → at ≡ last_before t k
seeking_hit {t = t} w j here e = here ∙ sym (last_hit t j e) ∙ sym (ap (last_before t) here) ∙ w.left

-- and at the end there is none
pub seeking_end : {key : ℕ → ℕ} {t : ℕ → Bool} {h k at : ℕ} → Seeking key t h k at → at ≤ 0 → 0 ≡ last_before t k
seeking_end {t = t} {at = at} w end =
    let none : at ≡ 0 = omega arith in
    sym (last_none t) ∙ sym (ap (last_before t) none) ∙ w.left
