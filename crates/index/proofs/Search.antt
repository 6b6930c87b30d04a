-- The laws of searches by index, and of the loop that searches: what was passed had no hit, and the next index decides.
-- Assumes nothing.
use mathlib.Core.Path.{◌≡◌, refl, sym, ap, ◌∙◌}
use mathlib.Core.Bool.{Bool, true, false, cond, not}
use Prim.Native.Nat.{ℕ, zero, suc, ◌+◌, ◌-◌, ◌≤◌, ◌<◌}
use native.Mathlib.Decide.{dec_lt, ℕ_discrete}
use native.Mathlib.Numerals.{add-one}
use native.Mathlib.Omega.{arith}
use borrow.Author.Tests.{lt-ltb, le-ltb, ltb-true}
use Rattle.index.specs.First.{first_of, first, any, all}

-- true is not false
pub true_false : {b : Bool} → b ≡ true → b ≡ false → ⊥
true_false p q = let z : ◌≡◌ {A = ℕ} 0 1 = cc in omega arith

-- a test has one of two answers
pub answers : {P : Type 0} (b : Bool) → (b ≡ true → P) → (b ≡ false → P) → P
answers true held failed = held refl
answers false held failed = failed refl

module _ (test : ℕ → Bool) where
  -- the steps of the definition
  of_hit : (a n : ℕ) → test a ≡ true → first_of test a (suc n) ≡ a
  unfolding first_of
  of_hit a n e = rw e

  of_miss : (a n : ℕ) → test a ≡ false → first_of test a (suc n) ≡ first_of test (suc a) n
  unfolding first_of
  of_miss a n e = rw e

  pub first_hit : (a b : ℕ) → a < b → test a ≡ true → first test a b ≡ a
  unfolding first
  first_hit a b h e = let n : b - a ≡ suc (b - suc a) = omega arith in rw n (of_hit a (b - suc a) e)

  pub first_miss : (a b : ℕ) → a < b → test a ≡ false → first test a b ≡ first test (suc a) b
  unfolding first
  first_miss a b h e = let n : b - a ≡ suc (b - suc a) = omega arith in rw n (of_miss a (b - suc a) e)

  pub first_none : (a b : ℕ) → b ≤ a → first test a b ≡ a
  unfolding first first_of
  first_none a b h = let n : b - a ≡ 0 = omega arith in rw n

  -- the first index lies among those searched, or is the end
  of_inside : (n a : ℕ) → (a ≤ first_of test a n) × (first_of test a n ≤ a + n)
  unfolding first_of
  of_inside zero a = (omega arith, omega arith)
  of_inside (suc n) a = go (test a) (of_inside n (suc a))
    where
      go : (b : Bool) → (suc a ≤ first_of test (suc a) n) × (first_of test (suc a) n ≤ suc a + n) → (a ≤ cond b a (first_of test (suc a) n)) × (cond b a (first_of test (suc a) n) ≤ a + suc n)
      go true h = (omega arith, omega arith)
      go false h = (omega arith, omega arith)

  pub first_from : (a b : ℕ) → a ≤ first test a b
  unfolding first
  first_from a b = (of_inside (b - a) a).0

  pub first_inside : (a b : ℕ) → a ≤ b → (a ≤ first test a b) × (first test a b ≤ b)
  unfolding first
  first_inside a b h = let i = of_inside (b - a) a in (i.0, omega (arith, i.1))

  -- the test holds at it
  of_holds : (n a : ℕ) → first_of test a n < a + n → test (first_of test a n) ≡ true
  unfolding first_of
  of_holds zero a h = absurd (omega arith)
  of_holds (suc n) a h = go (test a) refl h (of_holds n (suc a))
    where
      go : (b : Bool) → test a ≡ b → cond b a (first_of test (suc a) n) < a + suc n → (first_of test (suc a) n < suc a + n → test (first_of test (suc a) n) ≡ true) → test (cond b a (first_of test (suc a) n)) ≡ true
      go true e h ih = e
      go false e h ih = ih (omega arith)

  pub first_holds : (a b : ℕ) → first test a b < b → a ≤ b → test (first test a b) ≡ true
  unfolding first
  first_holds a b h l = of_holds (b - a) a (omega arith)

  -- and at none before it
  of_passed : (n a i : ℕ) → a ≤ i → i < first_of test a n → test i ≡ false
  unfolding first_of
  of_passed zero a i l h = absurd (omega arith)
  of_passed (suc n) a i l h = go (test a) refl h (of_passed n (suc a) i)
    where
      go : (b : Bool) → test a ≡ b → i < cond b a (first_of test (suc a) n) → (suc a ≤ i → i < first_of test (suc a) n → test i ≡ false) → test i ≡ false
      go true e h ih = absurd (omega arith)
      go false e h ih = at (ℕ_discrete a i)
        where
          at : Dec (a ≡ i) → test i ≡ false
          at (yes same) = ap test (sym same) ∙ e
          at (no other) = ih (omega arith) h

  pub first_passed : (a b i : ℕ) → a ≤ i → i < first test a b → test i ≡ false
  unfolding first
  first_passed a b i l h = of_passed (b - a) a i l h

  -- an index at which the test holds, and at none before it, is the first
  pub first_is : (a b k : ℕ) → a ≤ k → k < b → test k ≡ true → ((i : ℕ) → a ≤ i → i < k → test i ≡ false) → first test a b ≡ k
  first_is a b k l h e before = go (dec_lt (first test a b) k) (dec_lt k (first test a b))
    where
      inside : (a ≤ first test a b) × (first test a b ≤ b)
      inside = first_inside a b (omega arith)

      go : Dec (first test a b < k) → Dec (k < first test a b) → first test a b ≡ k
      go (yes s) d = absurd (true_false (first_holds a b (omega arith) (omega arith)) (before (first test a b) inside.0 s))
      go (no s) (yes g) = absurd (true_false e (first_passed a b k l g))
      go (no s) (no g) = omega arith

  -- where the test holds at no index, the end is answered
  pub first_end : (a b : ℕ) → a ≤ b → ((i : ℕ) → a ≤ i → i < b → test i ≡ false) → first test a b ≡ b
  first_end a b l none = go (dec_lt (first test a b) b)
    where
      inside : (a ≤ first test a b) × (first test a b ≤ b)
      inside = first_inside a b l

      go : Dec (first test a b < b) → first test a b ≡ b
      go (yes h) = absurd (true_false (first_holds a b h l) (none (first test a b) inside.0 h))
      go (no h) = omega (arith, inside)

  -- the first index is the same for a search that starts later, but not after it
  pub first_later : (a i b : ℕ) → a ≤ i → i ≤ first test a b → i ≤ b → first test i b ≡ first test a b
  first_later a i b l h m = go (dec_lt (first test a b) b)
    where
      go : Dec (first test a b < b) → first test i b ≡ first test a b
      go (yes k) =
          first_is i b (first test a b) h k (first_holds a b k (omega arith)) (λ j p q. first_passed a b j (omega arith) q)
      go (no k) =
          let end : first test a b ≡ b = omega (arith, first_inside a b (omega arith)) in
          first_end i b m (λ j p q. first_passed a b j (omega arith) (omega arith)) ∙ sym end

  -- ---- the loop that searches from a, below b, and is at i: nothing passed has a hit

  abbrev pub Searched : ℕ → ℕ → ℕ → Type 0
  Searched a b i = (a ≤ i) × (i ≤ b) × (first test i b ≡ first test a b)

  pub searched_start : (a b : ℕ) → a ≤ b → Searched a b a
  searched_start a b l = (omega arith, l, refl)

  -- a miss: the loop goes on
  pub searched_miss : (a b i : ℕ) → Searched a b i → i < b → test i ≡ false → Searched a b (i + 1)
  searched_miss a b i s h e =
      (omega (arith, s.0), omega arith, rw (add-one i) (sym (first_miss i b h e) ∙ s.2))

  -- a hit is the first
  pub searched_hit : (a b i : ℕ) → Searched a b i → i < b → test i ≡ true → i ≡ first test a b
  searched_hit a b i s h e = sym (first_hit i b h e) ∙ s.2

  -- the end: there is none
  pub searched_end : (a b i : ℕ) → Searched a b i → b ≤ i → b ≡ first test a b
  searched_end a b i s h = let e : b ≡ i = omega (arith, s.1) in e ∙ sym (first_none i b h) ∙ s.2

  -- ---- some index, and all

  pub any_at : (a b i : ℕ) → a ≤ i → i < b → test i ≡ true → any test a b ≡ true
  unfolding any
  any_at a b i l h e = lt-ltb (first test a b) b (go (dec_lt i (first test a b)))
    where
      go : Dec (i < first test a b) → first test a b < b
      go (yes g) = absurd (true_false e (first_passed a b i l g))
      go (no g) = omega arith

  pub any_index : (a b : ℕ) → a ≤ b → any test a b ≡ true → (i : ℕ) × (a ≤ i) × (i < b) × (test i ≡ true)
  unfolding any
  any_index a b l e =
      let h : first test a b < b = ltb-true (first test a b) b e in
      (first test a b, (first_inside a b l).0, h, first_holds a b h l)

  pub any_first : (a b : ℕ) → any test a b ≡ true → first test a b < b
  unfolding any
  any_first a b e = ltb-true (first test a b) b e

  -- a search that finds has something to search
  pub any_some : (a b : ℕ) → any test a b ≡ true → a ≤ b
  any_some a b e = go (dec_lt b a)
    where
      go : Dec (b < a) → a ≤ b
      go (yes h) = absurd (omega (arith, any_first a b e, first_none a b (omega arith)))
      go (no h) = omega arith

  pub any_none : (a b i : ℕ) → any test a b ≡ false → a ≤ i → i < b → test i ≡ false
  any_none a b i e l h = answers (test i) (λ t. absurd (true_false (any_at a b i l h t) e)) (λ f. f)

  pub none_any : (a b : ℕ) → a ≤ b → ((i : ℕ) → a ≤ i → i < b → test i ≡ false) → any test a b ≡ false
  unfolding any
  none_any a b l none = le-ltb (first test a b) b (omega (arith, first_end a b l none))

module _ (test : ℕ → Bool) where
  pub at_all : (a b : ℕ) → a ≤ b → ((i : ℕ) → a ≤ i → i < b → test i ≡ true) → all test a b ≡ true
  unfolding all
  at_all a b l each = ap not (none_any (λ (j : ℕ). not (test j)) a b l (λ i m h. ap not (each i m h)))

-- tests that agree wherever they are asked find the same
module _ (p q : ℕ → Bool) where
  pub first_same : (a b : ℕ) → a ≤ b → ((i : ℕ) → a ≤ i → i < b → p i ≡ q i) → first p a b ≡ first q a b
  first_same a b l same = go (dec_lt (first q a b) b)
    where
      inside : (a ≤ first q a b) × (first q a b ≤ b)
      inside = first_inside q a b l

      go : Dec (first q a b < b) → first p a b ≡ first q a b
      go (yes h) =
          first_is p a b (first q a b) inside.0 h (same (first q a b) inside.0 h ∙ first_holds q a b h l)
          (λ i m k. same i m (omega arith) ∙ first_passed q a b i m k)
      go (no h) =
          let end : first q a b ≡ b = omega (arith, inside) in
          first_end p a b l (λ i m k. same i m k ∙ first_passed q a b i m (omega arith)) ∙ sym end
