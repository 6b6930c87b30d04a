-- The loop that steps from hit to hit: after k of them it stands at the hit of that index, or past the last one.
-- Assumes nothing.
use mathlib.Core.Path.{◌≡◌, refl, sym, ap, ◌∙◌}
use mathlib.Core.Bool.{Bool}
use mathlib.Core.List.{List, [], ◌∷◌, map}
use Prim.Native.Nat.{ℕ, zero, suc, ◌+◌, ◌≤◌, ◌<◌}
use native.Mathlib.Decide.{dec_lt}
use native.Mathlib.Numerals.{add-one}
use native.Mathlib.Omega.{arith}
use lib.ListN.{length, get_or, get_or-eq_default}
use Rattle.index.specs.First.{first, hits}
use Rattle.index.proofs.Search.{first_none}
use Rattle.index.proofs.Hits.{hits_none, hits_few, hit_inside, first_hit_is, next_hit, inside_same}

-- the entry of a list that is made of another's entries
pub entry_made : {A : Type 0} {B : Type 0} (f : A → B) (l : List A) (k : ℕ) (d : A) (e : B) → k < length l → get_or (map f l) k e ≡ f (get_or l k d)
entry_made f [] k d e h = absurd (omega arith)
entry_made f (x ∷ l) zero d e h = refl
entry_made f (x ∷ l) (suc k) d e h = entry_made f l k d e (omega arith)

-- the loop from a, below b, is at i and has passed k hits
pub record Stepping (test : ℕ → Bool) (a b i k : ℕ) : Type 0 where
  pub passed : k ≤ length (hits test a b)
  pub more : i < b → (k < length (hits test a b)) × (get_or (hits test a b) k 0 ≡ i)
  pub done : b ≤ i → length (hits test a b) ≤ k

module _ (test : ℕ → Bool) (a b : ℕ) where
  -- it stands at the hit k, or at the end
  at_hit : (i k : ℕ) → k ≤ length (hits test a b) → get_or (hits test a b) k b ≡ i → Stepping test a b i k
  at_hit i k l is = record { passed = l; more = more; done = done }
    where
      more : i < b → (k < length (hits test a b)) × (get_or (hits test a b) k 0 ≡ i)
      more h = go (dec_lt k (length (hits test a b)))
        where
          go : Dec (k < length (hits test a b)) → (k < length (hits test a b)) × (get_or (hits test a b) k 0 ≡ i)
          go (yes m) = (m, inside_same (hits test a b) k 0 b m ∙ is)
          go (no m) = absurd (omega (arith, get_or-eq_default (hits test a b) b {n = k} (omega arith)))

      done : b ≤ i → length (hits test a b) ≤ k
      done h = go (dec_lt k (length (hits test a b)))
        where
          go : Dec (k < length (hits test a b)) → length (hits test a b) ≤ k
          go (yes m) = absurd (omega (arith, hit_inside test a b k m, inside_same (hits test a b) k b 0 m))
          go (no m) = omega arith

  -- the first hit
  pub stepping_start : (i : ℕ) → i ≡ first test a b → Stepping test a b i 0
  stepping_start i is = go (dec_lt b a)
    where
      go : Dec (b < a) → Stepping test a b i 0
      go (yes h) =
          let none : hits test a b ≡ [] = hits_none test a b (omega arith) in
          let at : first test a b ≡ a = first_none test a b (omega arith) in
          record {
            passed = omega arith;
            more = λ m. absurd (omega arith);
            done = λ m. omega (arith, ap length none);
          }
      go (no h) = at_hit i 0 (omega arith) (first_hit_is test a b (omega arith) ∙ sym is)

  -- the next one
  pub stepping_next : (i k : ℕ) → Stepping test a b i k → i < b → (j : ℕ) → j ≡ first test (i + 1) b → Stepping test a b j (k + 1)
  stepping_next i k s h j is =
      let more = s.more h in
      let inside = hit_inside test a b k more.0 in
      let next : get_or (hits test a b) (suc k) b ≡ first test (suc (get_or (hits test a b) k 0)) b = next_hit test a b k (omega (arith, inside)) more.0 in
      rw (add-one k) (at_hit j (suc k) more.0 (next ∙ ap (λ (x : ℕ). first test (suc x) b) more.1 ∙ sym (is ∙ ap (λ (x : ℕ). first test x b) (add-one i))))

  -- no more are passed than indices
  pub stepping_few : (i k : ℕ) → Stepping test a b i k → k ≤ b
  stepping_few i k s = omega (arith, s.passed, hits_few test a b)
