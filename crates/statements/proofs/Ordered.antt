-- Where a rule is broken, and rules in order: their ranks rise, and places rise with indices and from rule to rule.
-- Assumes nothing.
use mathlib.Core.Path.{◌≡◌, ap}
use mathlib.Core.Logic.{◌⊎◌, inl, inr}
use mathlib.Core.Bool.{true}
use mathlib.Core.List.{List, [], ◌∷◌, ◌++◌}
use Prim.Native.Nat.{ℕ, zero, suc, ◌+◌, ◌≤◌, ◌<◌}
use native.Mathlib.Decide.{dec_lt}
use native.Mathlib.Omega.{arith}
use Rattle.rule.specs.Rule.{Rule, each_of}
use Rattle.statements.specs.Order.{rank}

-- the index is tested by the rule, and the rule is broken there
pub record Broken (r : Rule) (i : ℕ) : Type 0 where
  pub from : r.from ≤ i
  pub below : i < r.to
  pub breaks : r.breach i ≡ true

-- of two breaches of a rule, the one at the later index has no earlier place
abbrev pub Rises : Rule → Type 0
Rises r = (i j : ℕ) → i < j → Broken r i → Broken r j → r.place i ≤ r.place j

-- a breach by one number at one place comes no later than another: its rank is earlier; or it is the same, and the place is earlier or
-- both are the same
abbrev pub NoLater : ℕ → ℕ → ℕ → ℕ → Type 0
NoLater number place m q = (rank number < rank m) ⊎ ((rank number ≡ rank m) × (place ≤ q) × (place ≡ q → number ≡ m))

-- a rule comes before another: no breach of it comes later than one of the other
abbrev pub Before : Rule → Rule → Type 0
Before r s = (i j : ℕ) → Broken r i → Broken s j → NoLater r.number (r.place i) s.number (s.place j)

-- a rule comes before each of these
abbrev pub BeforeAll : Rule → List Rule → Type 0
BeforeAll r [] = Unit {0}
BeforeAll r (s ∷ rs) = Before r s × BeforeAll r rs

-- each rule's places rise, and it comes before all that follow it
abbrev pub InOrder : List Rule → Type 0
InOrder [] = Unit {0}
InOrder (r ∷ rs) = Rises r × BeforeAll r rs × InOrder rs

-- each place is that of one of the first n tokens
abbrev pub Placed : ℕ → List Rule → Type 0
Placed n [] = Unit {0}
Placed n (r ∷ rs) = ((i : ℕ) → Broken r i → r.place i < n) × Placed n rs

-- the rule is broken at this token
pub record BrokenBy (r : Rule) (token : ℕ) : Type 0 where
  pub index : ℕ
  pub broken : Broken r index
  pub placed : r.place index ≡ token

-- the rule is one of these
infix 50 ◌listed_in◌
abbrev pub ◌listed_in◌ : Rule → List Rule → Type 0
r listed_in [] = ⊥
r listed_in (s ∷ rs) = (r ≡ s) ⊎ (r listed_in rs)

-- one of the rules, of this number, is broken at this token
pub record BrokenIn (rs : List Rule) (number token : ℕ) : Type 0 where
  pub rule : Rule
  pub listed : rule listed_in rs
  pub numbered : rule.number ≡ number
  pub index : ℕ
  pub broken : Broken rule index
  pub placed : rule.place index ≡ token

pub broken_in : {rs : List Rule} {number token : ℕ} (r : Rule) → r listed_in rs → r.number ≡ number → BrokenBy r token → BrokenIn rs number token
broken_in r listed numbered b = record {
  rule = r;
  listed = listed;
  numbered = numbered;
  index = b.index;
  broken = b.broken;
  placed = b.placed;
}

-- a rule of a part of a row is one of the row
pub listed_before : (r : Rule) (rs ss : List Rule) → r listed_in rs → r listed_in (rs ++ ss)
listed_before r [] ss none = elim none [ ]
listed_before r (s ∷ rs) ss (inl same) = inl same
listed_before r (s ∷ rs) ss (inr l) = inr (listed_before r rs ss l)

pub listed_after : (r : Rule) (rs ss : List Rule) → r listed_in ss → r listed_in (rs ++ ss)
listed_after r [] ss l = l
listed_after r (s ∷ rs) ss l = inr (listed_after r rs ss l)

pub listed_each : (rule : ℕ → Rule) (a n k : ℕ) → a ≤ k → k < a + n → rule k listed_in each_of rule a n
unfolding each_of
listed_each rule a zero k l h = absurd (omega arith)
listed_each rule a (suc n) k l h = go (dec_lt a k) (λ more. listed_each rule (suc a) n k more (omega arith))
  where
    go : Dec (a < k) → (a < k → rule k listed_in each_of rule (suc a) n) → rule k listed_in each_of rule a (suc n)
    go (yes more) rest = inr (rest more)
    go (no less) rest = let same : k ≡ a = omega arith in inl (ap rule same)
