-- Indices that are judged one after the other.
-- Assumes nothing.
use Rattle.std.specs.Prelude.{cond, ℕ, ◌≤◌, ◌<◌, Ok, Err}
use Rattle.rule.specs.Rule.{Rule, Judgement, finding}
use Rattle.rule.specs.declared.Finding.{Finding}

-- what a rule says of one index: it is kept there, or broken
abbrev pub judge_at : Rule → ℕ → Judgement
judge_at r k = cond (r.breach k) (Err (finding r k)) (Ok tt)

-- each index from a on, below k, may be said to be kept
abbrev pub KeptBefore : (ℕ → Judgement → Type 0) → ℕ → ℕ → Type 0
KeptBefore Says a k = (i : ℕ) → a ≤ i → i < k → Says i (Ok tt)

-- the first index from a on, below b, that may not be said to be kept
pub record BrokenFirst (Says : ℕ → Judgement → Type 0) (a b : ℕ) (f : Finding) : Type 0 where
  pub index : ℕ
  pub inside : (a ≤ index) × (index < b)
  pub before : KeptBefore Says a index
  pub broken : Says index (Err f)

-- what is said of the indices from a on, below b: of each that it is kept, or of the first that isn't what it breaks
abbrev pub SaidOfEach : (ℕ → Judgement → Type 0) → ℕ → ℕ → Judgement → Type 0
SaidOfEach Says a b (Ok _) = KeptBefore Says a b
SaidOfEach Says a b (Err f) = BrokenFirst Says a b f

-- a judgement that is so come to
pub record JudgedEach (Says : ℕ → Judgement → Type 0) (a b : ℕ) (judgement : Judgement) : Type 0 where
  pub said : SaidOfEach Says a b judgement
