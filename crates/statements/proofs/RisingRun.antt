-- Rules in a row: those of earlier ranks stand before the others, and among those of one rank the places rise.
-- Assumes nothing.
use mathlib.Core.Path.{ap}
use mathlib.Core.List.{List, [], ◌∷◌, ◌++◌}
use mathlib.Core.Logic.{inl, inr}
use Prim.Native.Nat.{ℕ, zero, suc, ◌+◌, ◌≤◌, ◌<◌}
use native.Mathlib.Omega.{arith}
use Rattle.rule.specs.Rule.{Rule, each_of}
use Rattle.statements.specs.Order.{rank}
use Rattle.statements.proofs.Ordered.{Broken, Before, BeforeAll, InOrder, Placed, ◌listed_in◌}
use Rattle.statements.proofs.RisingHits.{Confined}

-- all have ranks from n on, below m
abbrev pub Ranked : ℕ → ℕ → List Rule → Type 0
Ranked n m [] = Unit {0}
Ranked n m (r ∷ rs) = (n ≤ rank r.number) × (rank r.number < m) × Ranked n m rs

-- rules in order, with ranks from n on, below m
pub record Run (n m : ℕ) (rs : List Rule) : Type 0 where
  pub ranked : Ranked n m rs
  pub in_order : InOrder rs

-- so has one that is listed
pub ranked_listed : {n m : ℕ} (rs : List Rule) → Ranked n m rs → (s : Rule) → s listed_in rs → (n ≤ rank s.number) × (rank s.number < m)
ranked_listed {n = n} {m = m} [] p s none = elim none [ ]
ranked_listed (r ∷ rs) p s (inl same) = let equal = ap (λ (x : Rule). rank x.number) same in (omega (arith, p.0, equal), omega (arith, p.1, equal))
ranked_listed (r ∷ rs) p s (inr l) = ranked_listed rs p.2 s l

ranked_row : (n m a o : ℕ) (rs ss : List Rule) → n ≤ a → m ≤ o → Ranked n m rs → Ranked a o ss → Ranked n o (rs ++ ss)
ranked_row n m a o [] [] l h p q = tt
ranked_row n m a o [] (s ∷ ss) l h p q = (omega (arith, q.0), q.1, ranked_row n m a o [] ss l h tt q.2)
ranked_row n m a o (r ∷ rs) ss l h p q = (p.0, omega (arith, p.1), ranked_row n m a o rs ss l h p.2 q)

-- a rule comes before those of later ranks
before_later : (m o : ℕ) (r : Rule) (ss : List Rule) → rank r.number < m → Ranked m o ss → BeforeAll r ss
before_later m o r [] l q = tt
before_later m o r (s ∷ ss) l q = (λ i j x y. inl (omega (arith, q.0)), before_later m o r ss l q.2)

before_row : (r : Rule) (rs ss : List Rule) → BeforeAll r rs → BeforeAll r ss → BeforeAll r (rs ++ ss)
before_row r [] ss p q = q
before_row r (s ∷ rs) ss p q = (p.0, before_row r rs ss p.1 q)

ordered_row : (n m a o : ℕ) (rs ss : List Rule) → m ≤ a → Ranked n m rs → Ranked a o ss → InOrder rs → InOrder ss → InOrder (rs ++ ss)
ordered_row n m a o [] ss l p q f g = g
ordered_row n m a o (r ∷ rs) ss l p q f g =
    (f.0, before_row r rs ss f.1 (before_later a o r ss (omega (arith, p.1)) q), ordered_row n m a o rs ss l p.2 q f.2 g)

-- one run after the other: no rank of the first comes behind one of the second
pub run_row : {n m a o : ℕ} {rs ss : List Rule} → n ≤ a → m ≤ a → m ≤ o → Run n m rs → Run a o ss → Run n o (rs ++ ss)
run_row {n} {m} {a} {o} {rs} {ss} l h k p q = record {
  ranked = ranked_row n m a o rs ss l k p.ranked q.ranked;
  in_order = ordered_row n m a o rs ss h p.ranked q.ranked p.in_order q.in_order;
}

-- ranks that end earlier end before any later one
pub run_within : {n m o : ℕ} {rs : List Rule} → m ≤ o → Run n m rs → Run n o rs
run_within {n} {m} {o} {rs} h p = record { ranked = within rs p.ranked; in_order = p.in_order }
  where
    within : (rs : List Rule) → Ranked n m rs → Ranked n o rs
    within [] q = tt
    within (r ∷ rs) q = (q.0, omega (arith, q.1), within rs q.2)

-- a rule alone
pub run_one : {n d e : ℕ} {r : Rule} → Confined n d e r → Run n (suc n) (r ∷ [])
run_one c = record { ranked = (omega (arith, c.ranked), omega (arith, c.ranked), tt); in_order = (c.rises, tt, tt) }

-- a rule, and then those of later ranks
pub run_then : {n a o d e : ℕ} {r : Rule} {rs : List Rule} → n < a → a ≤ o → Confined n d e r → Run a o rs → Run n o (r ∷ rs)
run_then l h c rest = run_row (omega arith) l (omega arith) (run_one c) rest

-- a rule of one rank for each index below c, with bounds for each, of which none passes the next
module _ (rule : ℕ → Rule) (n c : ℕ) (d e : ℕ → ℕ) (confined : (k : ℕ) → k < c → Confined n (d k) (e k) (rule k))
    (apart : (j k : ℕ) → j < k → k < c → e j ≤ d k) where
  each_ranked : (m a : ℕ) → a + m ≤ c → Ranked n (suc n) (each_of rule a m)
  unfolding each_of
  each_ranked zero a h = tt
  each_ranked (suc m) a h =
      let at = (confined a (omega arith)).ranked in
      (omega (arith, at), omega (arith, at), each_ranked m (suc a) (omega arith))

  before : (j k : ℕ) → j < k → k < c → Before (rule j) (rule k)
  before j k l h x y p q =
      let one = confined j (omega arith) in
      let other = confined k h in
      let earlier : (rule j).place x < (rule k).place y = omega (arith, apart j k l h, one.inside x p, other.inside y q) in
      inr (omega (arith, one.ranked, other.ranked), omega arith, λ same. absurd (omega arith))

  before_each : (j m a : ℕ) → j < a → a + m ≤ c → BeforeAll (rule j) (each_of rule a m)
  unfolding each_of
  before_each j zero a l h = tt
  before_each j (suc m) a l h = (before j a l (omega arith), before_each j m (suc a) (omega arith) (omega arith))

  each_ordered : (m a : ℕ) → a + m ≤ c → InOrder (each_of rule a m)
  unfolding each_of
  each_ordered zero a h = tt
  each_ordered (suc m) a h =
      ((confined a (omega arith)).rises, before_each a m (suc a) (omega arith) (omega arith), each_ordered m (suc a) (omega arith))

  pub run_each : (m a : ℕ) → a + m ≤ c → Run n (suc n) (each_of rule a m)
  run_each m a h = record { ranked = each_ranked m a h; in_order = each_ordered m a h }

-- the places of rules in a row, and of a rule for each index below c
pub placed_row : (n : ℕ) (rs ss : List Rule) → Placed n rs → Placed n ss → Placed n (rs ++ ss)
placed_row n [] ss p q = q
placed_row n (r ∷ rs) ss p q = (p.0, placed_row n rs ss p.1 q)

pub placed_each : (n c : ℕ) (rule : ℕ → Rule) → ((k : ℕ) → k < c → (i : ℕ) → Broken (rule k) i → (rule k).place i < n)
    → (m a : ℕ) → a + m ≤ c → Placed n (each_of rule a m)
unfolding each_of
placed_each n c rule p zero a h = tt
placed_each n c rule p (suc m) a h = (p a (omega arith), placed_each n c rule p m (suc a) (omega arith))
