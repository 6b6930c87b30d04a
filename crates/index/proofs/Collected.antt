-- The law of the loop that collects the indices where a test holds in an array.
-- Assumes nothing.
use mathlib.Core.Path.{◌≡◌, refl, sym, ap, ◌∙◌}
use mathlib.Core.Bool.{Bool, true, false}
use mathlib.Core.List.{List, [], ◌∷◌}
use Prim.Native.Nat.{ℕ, suc, ◌+◌, ◌-◌, ◌≤◌, ◌<◌}
use native.Mathlib.Decide.{dec_lt}
use native.Mathlib.Numerals.{add-one}
use native.Mathlib.Omega.{arith}
use lib.ListN.{length, get_or, drop, set, length-set, length-drop}
use lib.Seq.{get_or-drop, get_or-set_same, get_or-set_other, drop-drop}
use Rattle.index.specs.First.{hits, Listed}
use Rattle.index.proofs.Hits.{hits_hit, hits_miss, hits_none}

-- the loop from a, below b, is at i and has stored k hits: what is left of them are the hits from i on
pub record Collecting (test : ℕ → Bool) (a b : ℕ) (array : List ℕ) (i k : ℕ) : Type 0 where
  pub inside : (a ≤ i) × (i ≤ b)
  pub few : k ≤ i - a
  pub left : drop k (hits test a b) ≡ hits test i b
  pub stored : k ≤ length (hits test a b)
  pub room : k ≤ length array
  pub entry : (j : ℕ) → j < k → get_or array j 0 ≡ get_or (hits test a b) j 0

pub collecting_start : (test : ℕ → Bool) (a b : ℕ) (array : List ℕ) → a ≤ b → Collecting test a b array a 0
collecting_start test a b array l = record {
  inside = (omega arith, l);
  few = omega arith;
  left = refl;
  stored = omega arith;
  room = omega arith;
  entry = λ j h. absurd (omega arith);
}

module _ (test : ℕ → Bool) (a b : ℕ) (array : List ℕ) (i k : ℕ) (c : Collecting test a b array i k) where
  -- a miss is passed
  pub collecting_miss : i < b → test i ≡ false → Collecting test a b array (i + 1) k
  collecting_miss h e = record {
    inside = (omega (arith, c.inside), omega arith);
    few = omega (arith, c.few, c.inside);
    left = rw (add-one i) (c.left ∙ hits_miss test i b h e);
    stored = c.stored;
    room = c.room;
    entry = c.entry;
  }

  -- the next of the hits is the one that the loop is at
  next_is : i < b → test i ≡ true → drop k (hits test a b) ≡ i ∷ hits test (suc i) b
  next_is h e = c.left ∙ hits_hit test i b h e

  -- more hits are left than are stored
  pub hit_more : i < b → test i ≡ true → k < length (hits test a b)
  hit_more h e = omega (arith, length-drop k (hits test a b), ap length (next_is h e))

  pub hit_is : i < b → test i ≡ true → get_or (hits test a b) k 0 ≡ i
  hit_is h e =
      let at : get_or (drop k (hits test a b)) 0 0 ≡ get_or (hits test a b) k 0 =
      get_or-drop k (hits test a b) 0 0 ∙ ap (λ (j : ℕ). get_or (hits test a b) j 0) (omega arith) in
      sym at ∙ ap (λ (l : List ℕ). get_or l 0 0) (next_is h e)

  -- a hit is stored
  pub collecting_hit : i < b → test i ≡ true → k < length array → Collecting test a b (set array k i) (i + 1) (k + 1)
  collecting_hit h e r = record {
    inside = (omega (arith, c.inside), omega arith);
    few = omega (arith, c.few, c.inside);
    left =
        rw (add-one k, add-one i)
        (sym (ap (λ (n : ℕ). drop n (hits test a b)) (add-one k)) ∙ sym (drop-drop 1 k (hits test a b)) ∙ ap (drop 1) (next_is h e));
    stored = omega (arith, hit_more h e);
    room = omega (arith, length-set array k i);
    entry = λ j l. stored_at j l;
  }
    where
      stored_at : (j : ℕ) → j < k + 1 → get_or (set array k i) j 0 ≡ get_or (hits test a b) j 0
      stored_at j l = go (dec_lt j k)
        where
          go : Dec (j < k) → get_or (set array k i) j 0 ≡ get_or (hits test a b) j 0
          go (yes m) = get_or-set_other array k j i 0 (λ q. omega arith) ∙ c.entry j m
          go (no m) =
              let same : j ≡ k = omega arith in
              rw same (get_or-set_same array k i 0 r ∙ sym (hit_is h e))

  -- at the end the array holds them all
  pub collecting_end : b ≤ i → Listed (hits test a b) array k
  collecting_end h =
      let none : drop k (hits test a b) ≡ [] = c.left ∙ hits_none test i b h in
      let all : length (hits test a b) ≡ k = omega (arith, length-drop k (hits test a b), ap length none, c.stored) in
      record { counted = all; room = c.room; entry = c.entry }

-- ---- the loop that only counts them

-- it is at i and has counted k: those and the ones to come are all
pub record Counting (test : ℕ → Bool) (a b i k : ℕ) : Type 0 where
  pub from : a ≤ i
  pub few : k ≤ i - a
  pub all : k + length (hits test i b) ≡ length (hits test a b)

pub counting_start : (test : ℕ → Bool) (a b : ℕ) → Counting test a b a 0
counting_start test a b = record { from = omega arith; few = omega arith; all = omega arith }

module _ (test : ℕ → Bool) (a b i k : ℕ) (c : Counting test a b i k) where
  pub counting_miss : i < b → test i ≡ false → Counting test a b (i + 1) k
  counting_miss h e = record {
    from = omega (arith, c.from);
    few = omega (arith, c.few, c.from);
    all = rw (add-one i) (omega (arith, c.all, ap length (hits_miss test i b h e)));
  }

  pub counting_hit : i < b → test i ≡ true → Counting test a b (i + 1) (k + 1)
  counting_hit h e = record {
    from = omega (arith, c.from);
    few = omega (arith, c.few, c.from);
    all = rw (add-one i) (omega (arith, c.all, ap length (hits_hit test i b h e)));
  }

  pub counting_end : b ≤ i → k ≡ length (hits test a b)
  counting_end h = omega (arith, c.all, ap length (hits_none test i b h))

-- ---- the loop that fills an array from the left: each entry is right, and so is one more
pub filled_more : (Right : ℕ → ℕ → Type 0) (array : List ℕ) (k v : ℕ) → ((i : ℕ) → i < k → Right i (get_or array i 0)) → Right k v → k < length array
    → (i : ℕ) → i < k + 1 → Right i (get_or (set array k v) i 0)
filled_more Right array k v before here room i h = go (dec_lt i k)
  where
    go : Dec (i < k) → Right i (get_or (set array k v) i 0)
    go (yes l) = rw (get_or-set_other array k i v 0 (λ q. omega arith)) (before i l)
    go (no l) =
        let same : i ≡ k = omega arith in
        rw same (rw (get_or-set_same array k v 0 room) here)
