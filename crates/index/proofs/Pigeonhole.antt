-- More indices than values: of the c + 1 numbers at 0 to c, each of them below c, two are equal.
-- Assumes nothing.
use mathlib.Core.Path.{◌≡◌}
use mathlib.Core.Bool.{Bool, true, false, cond}
use Prim.Native.Nat.{ℕ, zero, suc, ◌-◌, ◌≤◌, ◌<◌}
use native.Mathlib.Decide.{dec_lt}
use native.Mathlib.Omega.{arith}
use borrow.Author.Tests.{lt-ltb, le-ltb, eqb-true, eqb-false}
use lib.Dec.{ltb, eqb}
use Rattle.index.specs.First.{any}
use Rattle.index.proofs.Search.{answers, any_index, any_none}

-- two of the numbers at 0 to c are equal
pub record Twice (f : ℕ → ℕ) (c : ℕ) : Type 0 where
  pub one : ℕ
  pub other : ℕ
  pub apart : one < other
  pub inside : other ≤ c
  pub equal : f one ≡ f other

-- the numbers without v: those above it move down by one
without : ℕ → ℕ → ℕ
without v n = cond (ltb n v) n (n - 1)

without_small : (v n : ℕ) → n < v → without v n ≡ n
unfolding without
without_small v n h = simp (lt-ltb n v h)

without_large : (v n : ℕ) → v ≤ n → without v n ≡ n - 1
unfolding without
without_large v n h = simp (le-ltb n v h)

module _ (v n : ℕ) (apart : n ≡ v → ⊥) where
  without_below : (c : ℕ) → v ≤ c → n < suc c → without v n < c
  without_below c l h = go (dec_lt n v)
    where
      go : Dec (n < v) → without v n < c
      go (yes s) = omega (arith, without_small v n s)
      go (no s) = omega (arith, without_large v n (omega arith))

  without_same : (m : ℕ) → (m ≡ v → ⊥) → without v n ≡ without v m → n ≡ m
  without_same m other e = go (dec_lt n v) (dec_lt m v)
    where
      go : Dec (n < v) → Dec (m < v) → n ≡ m
      go (yes s) (yes t) = omega (arith, without_small v n s, without_small v m t)
      go (yes s) (no t) = omega (arith, without_small v n s, without_large v m (omega arith))
      go (no s) (yes t) = omega (arith, without_large v n (omega arith), without_small v m t)
      go (no s) (no t) = omega (arith, without_large v n (omega arith), without_large v m (omega arith))

pub pigeonhole : (c : ℕ) (f : ℕ → ℕ) → ((i : ℕ) → i ≤ c → f i < c) → Twice f c
pigeonhole zero f below = absurd (omega (arith, below 0 (omega arith)))
pigeonhole (suc c) f below = answers (any again 0 (suc c)) found (λ e. later (pigeonhole c (λ (i : ℕ). without v (f i)) (fewer e)) e)
  where
    v : ℕ
    v = f (suc c)

    -- the last number stands at an index before it
    again : ℕ → Bool
    again i = eqb (f i) v

    found : any again 0 (suc c) ≡ true → Twice f (suc c)
    found e =
        let i = any_index again 0 (suc c) (omega arith) e in
        record { one = i.0; other = suc c; apart = i.2; inside = omega arith; equal = eqb-true _ _ i.3 }

    -- it stands at none: without it the numbers before it are all below c, and two of them are equal
    differs : any again 0 (suc c) ≡ false → (i : ℕ) → i ≤ c → f i ≡ v → ⊥
    differs e i h = eqb-false _ _ (any_none again 0 (suc c) i e (omega arith) (omega arith))

    fewer : any again 0 (suc c) ≡ false → (i : ℕ) → i ≤ c → without v (f i) < c
    fewer e i h = without_below v (f i) (differs e i h) c (omega (arith, below (suc c) (omega arith))) (below i (omega arith))

    later : Twice (λ (i : ℕ). without v (f i)) c → any again 0 (suc c) ≡ false → Twice f (suc c)
    later t e = record {
      one = t.one;
      other = t.other;
      apart = t.apart;
      inside = omega (arith, t.inside);
      equal = without_same v (f t.one) (differs e t.one (omega (arith, t.apart, t.inside))) (f t.other) (differs e t.other t.inside) t.equal;
    }
