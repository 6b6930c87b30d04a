-- Rules whose places are the indices where a test holds: their breaches rise and stay between the bounds.
-- Assumes nothing.
use mathlib.Core.Path.{◌≡◌, refl}
use mathlib.Core.Bool.{Bool, cond, true, false}
use Prim.Native.Nat.{ℕ, ◌≤◌, ◌<◌}
use native.Mathlib.Omega.{arith}
use lib.ListN.{length, get_or}
use Rattle.index.specs.First.{hits}
use Rattle.rule.specs.Rule.{Rule}
use Rattle.index.proofs.Hits.{hits_rise, hit_inside}
use Rattle.statements.specs.Order.{rank}
use Rattle.statements.proofs.Ordered.{Broken, Rises}

-- a rule of this rank whose breaches rise, each with its place from d on, below e
pub record Confined (n d e : ℕ) (r : Rule) : Type 0 where
  pub ranked : rank r.number ≡ n
  pub rises : Rises r
  pub inside : (i : ℕ) → Broken r i → (d ≤ r.place i) × (r.place i < e)

-- bounds that hold for each place between others
pub confined_wider : {n a b d e : ℕ} {r : Rule} → ((p : ℕ) → a ≤ p → p < b → (d ≤ p) × (p < e)) → Confined n a b r → Confined n d e r
confined_wider {r = r} wider c = record {
  ranked = c.ranked;
  rises = c.rises;
  inside = λ i k. let within = c.inside i k in wider (r.place i) within.0 within.1;
}

-- one of two rules
pub confined_either : {n d e : ℕ} (b : Bool) {r s : Rule} → Confined n d e r → Confined n d e s → Confined n d e (cond b r s)
confined_either true p q = p
confined_either false p q = q

module _ (test : ℕ → Bool) (a b : ℕ) where
  -- a rule whose places are the hits
  pub hits_confined : (r : Rule) → r.to ≡ length (hits test a b) → ((k : ℕ) → k < length (hits test a b) → r.place k ≡ get_or (hits test a b) k 0)
      → Confined (rank r.number) a b r
  hits_confined r counted placed = record {
    ranked = refl;
    rises = λ i j l p q.
        let more : j < length (hits test a b) = omega (arith, q.below) in
        omega (arith, hits_rise test a b i j l more, placed i (omega arith), placed j more);
    inside = λ i p.
        let more : i < length (hits test a b) = omega (arith, p.below) in
        let within = hit_inside test a b i more in
        (omega (arith, within.0, placed i more), omega (arith, within.1, placed i more));
  }
