-- The laws of the indices where a test holds, in rising order; and of the loop that collects them.
-- Assumes nothing.
use mathlib.Core.Path.{◌≡◌, refl, ap, ◌∙◌}
use mathlib.Core.Bool.{Bool, true, false, cond}
use mathlib.Core.List.{List, [], ◌∷◌}
use Prim.Native.Nat.{ℕ, zero, suc, ◌+◌, ◌-◌, ◌≤◌, ◌<◌}
use native.Mathlib.Decide.{ℕ_discrete, dec_lt}
use native.Mathlib.Omega.{arith}
use lib.ListN.{length, get_or}
use Rattle.index.specs.First.{first_of, first, hits_of, hits}
use Rattle.index.proofs.Search.{true_false, first_from}

-- an entry inside a list is the same whatever stands for one outside
pub inside_same : (l : List ℕ) (i d e : ℕ) → i < length l → get_or l i d ≡ get_or l i e
inside_same [] i d e h = absurd (omega arith)
inside_same (x ∷ l) zero d e h = refl
inside_same (x ∷ l) (suc i) d e h = inside_same l i d e (omega arith)

module _ (test : ℕ → Bool) where
  of_hit : (a n : ℕ) → test a ≡ true → hits_of test a (suc n) ≡ a ∷ hits_of test (suc a) n
  unfolding hits_of
  of_hit a n e = rw e

  of_miss : (a n : ℕ) → test a ≡ false → hits_of test a (suc n) ≡ hits_of test (suc a) n
  unfolding hits_of
  of_miss a n e = rw e

  -- the steps: a hit is the first of them, a miss is passed, at the end there is none
  pub hits_hit : (a b : ℕ) → a < b → test a ≡ true → hits test a b ≡ a ∷ hits test (suc a) b
  unfolding hits
  hits_hit a b h e = let n : b - a ≡ suc (b - suc a) = omega arith in rw n (of_hit a (b - suc a) e)

  pub hits_miss : (a b : ℕ) → a < b → test a ≡ false → hits test a b ≡ hits test (suc a) b
  unfolding hits
  hits_miss a b h e = let n : b - a ≡ suc (b - suc a) = omega arith in rw n (of_miss a (b - suc a) e)

  pub hits_none : (a b : ℕ) → b ≤ a → hits test a b ≡ []
  unfolding hits hits_of
  hits_none a b h = let n : b - a ≡ 0 = omega arith in rw n

  -- there are no more than indices
  of_few : (n a : ℕ) → length (hits_of test a n) ≤ n
  unfolding hits_of
  of_few zero a = omega arith
  of_few (suc n) a = go (test a) (of_few n (suc a))
    where
      go : (b : Bool) → length (hits_of test (suc a) n) ≤ n → length (cond b (a ∷ hits_of test (suc a) n) (hits_of test (suc a) n)) ≤ suc n
      go true h = omega arith
      go false h = omega arith

  pub hits_few : (a b : ℕ) → length (hits test a b) ≤ b - a
  unfolding hits
  hits_few a b = of_few (b - a) a

  -- what each hit is: an index of the range, at which the test holds
  record Hit (a n i : ℕ) : Type 0 where
    from : a ≤ i
    below : i < a + n
    holds : test i ≡ true

  later : (a n i : ℕ) → Hit (suc a) n i → Hit a (suc n) i
  later a n i h = record { from = omega (arith, h.from); below = omega (arith, h.below); holds = h.holds }

  of_each : (n a k : ℕ) → k < length (hits_of test a n) → Hit a n (get_or (hits_of test a n) k 0)
  unfolding hits_of
  of_each zero a k h = absurd (omega arith)
  of_each (suc n) a k h = go (test a) refl k h (of_each n (suc a))
    where
      go : (b : Bool) → test a ≡ b → (k : ℕ) → k < length (cond b (a ∷ hits_of test (suc a) n) (hits_of test (suc a) n))
          → ((j : ℕ) → j < length (hits_of test (suc a) n) → Hit (suc a) n (get_or (hits_of test (suc a) n) j 0))
          → Hit a (suc n) (get_or (cond b (a ∷ hits_of test (suc a) n) (hits_of test (suc a) n)) k 0)
      go true e zero h ih = record { from = omega arith; below = omega arith; holds = e }
      go true e (suc k) h ih = later a n _ (ih k (omega arith))
      go false e k h ih = later a n _ (ih k h)

  pub hit_inside : (a b k : ℕ) → k < length (hits test a b) → (a ≤ get_or (hits test a b) k 0) × (get_or (hits test a b) k 0 < b)
  unfolding hits
  hit_inside a b k h =
      let each = of_each (b - a) a k h in
      (each.from, omega (arith, each.below, each.from))

  pub hit_holds : (a b k : ℕ) → k < length (hits test a b) → test (get_or (hits test a b) k 0) ≡ true
  unfolding hits
  hit_holds a b k h = (of_each (b - a) a k h).holds

  -- the hit after one is the first index after it where the test holds, or the end
  of_first : (n a b : ℕ) → a + n ≡ b → get_or (hits_of test a n) 0 b ≡ first_of test a n
  unfolding hits_of first_of
  of_first zero a b e = omega arith
  of_first (suc n) a b e = go (test a) (of_first n (suc a) b (omega arith))
    where
      go : (t : Bool) → get_or (hits_of test (suc a) n) 0 b ≡ first_of test (suc a) n
          → get_or (cond t (a ∷ hits_of test (suc a) n) (hits_of test (suc a) n)) 0 b ≡ cond t a (first_of test (suc a) n)
      go true ih = refl
      go false ih = ih

  pub first_hit_is : (a b : ℕ) → a ≤ b → get_or (hits test a b) 0 b ≡ first test a b
  unfolding hits first
  first_hit_is a b h = of_first (b - a) a b (omega arith)

  first_of_rest : (n a b : ℕ) → a + n ≡ b → get_or (hits_of test a n) 0 b ≡ first test a b
  unfolding first
  first_of_rest n a b e = let m : b - a ≡ n = omega arith in rw m (of_first n a b e)

  next_from : (n a b k : ℕ) → a + n ≡ b → k < length (hits_of test a n)
      → get_or (hits_of test a n) (suc k) b ≡ first test (suc (get_or (hits_of test a n) k 0)) b
  unfolding hits_of
  next_from zero a b k e h = absurd (omega arith)
  next_from (suc n) a b k e h = go (test a) k h (next_from n (suc a) b)
    where
      go : (t : Bool) (k : ℕ) → k < length (cond t (a ∷ hits_of test (suc a) n) (hits_of test (suc a) n))
          → ((j : ℕ) → suc a + n ≡ b → j < length (hits_of test (suc a) n) → get_or (hits_of test (suc a) n) (suc j) b ≡ first test (suc (get_or (hits_of test (suc a) n) j 0)) b)
          → get_or (cond t (a ∷ hits_of test (suc a) n) (hits_of test (suc a) n)) (suc k) b ≡ first test (suc (get_or (cond t (a ∷ hits_of test (suc a) n) (hits_of test (suc a) n)) k 0)) b
      go true zero h ih = first_of_rest n (suc a) b (omega arith)
      go true (suc k) h ih = ih k (omega arith) (omega arith)
      go false k h ih = ih k (omega arith) h

  pub next_hit : (a b k : ℕ) → a ≤ b → k < length (hits test a b) → get_or (hits test a b) (suc k) b ≡ first test (suc (get_or (hits test a b) k 0)) b
  unfolding hits
  next_hit a b k l h = next_from (b - a) a b k (omega arith) h

  -- where the test holds, the index is among them
  abbrev Among : List ℕ → ℕ → Type 0
  Among l i = (k : ℕ) × (k < length l) × (get_or l k 0 ≡ i)

  of_found : (n a i : ℕ) → a ≤ i → i < a + n → test i ≡ true → Among (hits_of test a n) i
  unfolding hits_of
  of_found zero a i l h e = absurd (omega arith)
  of_found (suc n) a i l h e = go (test a) refl (ℕ_discrete a i) (of_found n (suc a) i)
    where
      go : (b : Bool) → test a ≡ b → Dec (a ≡ i) → (suc a ≤ i → i < suc a + n → test i ≡ true → Among (hits_of test (suc a) n) i)
          → Among (cond b (a ∷ hits_of test (suc a) n) (hits_of test (suc a) n)) i
      go true t (yes same) ih = (0, omega arith, same)
      go true t (no other) ih =
          let found = ih (omega arith) (omega arith) e in
          (suc found.0, omega (arith, found.1), found.2)
      go false t (yes same) ih = absurd (true_false (ap test same ∙ e) t)
      go false t (no other) ih = ih (omega arith) (omega arith) e

  pub hit_found : (a b i : ℕ) → a ≤ i → i < b → test i ≡ true → Among (hits test a b) i
  unfolding hits
  hit_found a b i l h e = of_found (b - a) a i l (omega arith) e

module _ (test : ℕ → Bool) (a b : ℕ) where
  -- each hit stands before the next
  next_later : (k : ℕ) → suc k < length (hits test a b) → get_or (hits test a b) k 0 < get_or (hits test a b) (suc k) 0
  next_later k h =
      let next = next_hit test a b k (omega (arith, hits_few test a b)) (omega arith) in
      let same = inside_same (hits test a b) (suc k) 0 b h in
      omega (arith, next, same, first_from test (suc (get_or (hits test a b) k 0)) b)

  -- and so before all later ones
  pub hits_rise : (i j : ℕ) → i < j → j < length (hits test a b) → get_or (hits test a b) i 0 < get_or (hits test a b) j 0
  hits_rise i zero l h = absurd (omega arith)
  hits_rise i (suc j) l h = go (dec_lt i j) (hits_rise i j)
    where
      go : Dec (i < j) → (i < j → j < length (hits test a b) → get_or (hits test a b) i 0 < get_or (hits test a b) j 0)
          → get_or (hits test a b) i 0 < get_or (hits test a b) (suc j) 0
      go (yes m) before = omega (arith, before m (omega arith), next_later j h)
      go (no m) before = let same : i ≡ j = omega arith in rw same (next_later j h)
