-- The loop that asks whether a test holds at some index from a on, below b, and is at i: nothing passed has a hit. It needs no order of
-- a and b, as `Searched` of the crate `index` does. And what is asked, one index at a time; and tests that are joined.
-- Assumes nothing.
use mathlib.Core.Path.{◌≡◌, refl, sym, ◌∙◌}
use mathlib.Core.Bool.{Bool, true, false, ◌||◌}
use Prim.Native.Nat.{ℕ, ◌+◌, ◌≤◌, ◌<◌}
use native.Mathlib.Decide.{ℕ_discrete}
use native.Mathlib.Numerals.{add-one}
use native.Mathlib.Omega.{arith}
use borrow.Author.Tests.{lt-ltb, le-ltb}
use Rattle.index.specs.First.{first, any}
use Rattle.index.proofs.Search.{true_false, answers, first_hit, first_miss, first_none, any_at, any_index, any_some}

module _ (test : ℕ → Bool) (a b i : ℕ) where
  abbrev pub Asking : Type 0
  Asking = first test i b ≡ first test a b

  module _ (s : Asking) where
    -- a miss: the loop goes on
    pub asking_miss : i < b → test i ≡ false → first test (i + 1) b ≡ first test a b
    asking_miss h e = rw (add-one i) (sym (first_miss test i b h e) ∙ s)

    -- a hit is the first
    pub first_asked : i < b → test i ≡ true → i ≡ first test a b
    first_asked h e = sym (first_hit test i b h e) ∙ s

    pub asking_hit : i < b → test i ≡ true → true ≡ any test a b
    unfolding any
    asking_hit h e = sym (lt-ltb (first test a b) b (omega (arith, first_asked h e)))

    -- the end: there is none
    pub none_asked : b ≤ i → i ≡ first test a b
    none_asked h = sym (first_none test i b h) ∙ s

    pub asking_end : b ≤ i → false ≡ any test a b
    unfolding any
    asking_end h = sym (le-ltb (first test a b) b (omega (arith, none_asked h)))

-- the test at the first index, and the search after it
pub any_step : (test : ℕ → Bool) (a b : ℕ) → a < b → any test a b ≡ (test a || any test (a + 1) b)
unfolding any
any_step test a b h =
    answers (test a)
    (λ e. rw e (lt-ltb (first test a b) b (omega (arith, first_hit test a b h e))))
    (λ e. rw (e, add-one a, first_miss test a b h e))

-- a search of nothing finds nothing
pub any_empty : (test : ℕ → Bool) (a b : ℕ) → b ≤ a → any test a b ≡ false
unfolding any
any_empty test a b h = le-ltb (first test a b) b (omega (arith, first_none test a b h))

-- tests that hold of the same are the same
pub same_tests : (a b : Bool) → (a ≡ true → b ≡ true) → (b ≡ true → a ≡ true) → a ≡ b
same_tests true b there back = sym (there refl)
same_tests false true there back = back refl
same_tests false false there back = refl

-- a search finds no more by an index where the test fails
pub any_longer : (test : ℕ → Bool) (a i : ℕ) → a ≤ i → test i ≡ false → any test a i ≡ any test a (i + 1)
any_longer test a i l e = same_tests _ _ there back
  where
    there : any test a i ≡ true → any test a (i + 1) ≡ true
    there some =
        let found = any_index test a i l some in
        any_at test a (i + 1) found.0 found.1 (omega (arith, found.2)) found.3

    back : any test a (i + 1) ≡ true → any test a i ≡ true
    back some = go (any_index test a (i + 1) (omega arith) some)
      where
        go : (j : ℕ) × (a ≤ j) × (j < i + 1) × (test j ≡ true) → any test a i ≡ true
        go (j, m, h, holds) = at (ℕ_discrete j i)
          where
            at : Dec (j ≡ i) → any test a i ≡ true
            at (yes same) = absurd (true_false holds (rw same e))
            at (no other) = any_at test a i j m (omega arith) holds

-- what holds of each index where a test is asked
pub none_asked_of : (test : ℕ → Bool) (a b : ℕ) → ((i : ℕ) → a ≤ i → i < b → test i ≡ true → ⊥) → any test a b ≡ false
none_asked_of test a b never = answers (any test a b) some (λ e. e)
  where
    some : any test a b ≡ true → any test a b ≡ false
    some e = let found = any_index test a b (any_some test a b e) e in absurd (never found.0 found.1 found.2 found.3)
