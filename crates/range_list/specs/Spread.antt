-- The lowest and the highest of the ranges from token `from` on, before some token, where none of those is misplaced.
-- Assumes nothing.
use Rattle.std.specs.Prelude.{true, false, List, ◌≡◌, ℕ, ◌+◌, ◌≤◌, ◌<◌, ℤ, Option, None, Some}
use Rattle.std.specs.Int.Signed.{lt_z}
use Rattle.sub_type.specs.Range.{starts_range, low, high}
use Rattle.range_list.specs.Misplaced.{is_backward, is_misplaced}
use Rattle.range_list.specs.declared.spread.Extremes.{Extremes}

-- range i is one of them, and its pair is not wrong
pub record Right (cs vs : List ℕ) (from token i : ℕ) : Type 0 where
  pub inside : (from ≤ i) × (i < token)
  pub starts : starts_range cs i ≡ true
  pub forward : is_backward cs vs i ≡ false

-- what is below the lowest is below all of them, and what is above the highest is above all
pub record Spread (cs vs : List ℕ) (from token lowest highest : ℕ) : Type 0 where
  pub first : Right cs vs from token lowest
  pub last : Right cs vs from token highest
  pub under : (z : ℤ) → lt_z z (low cs vs lowest) ≡ true → (i : ℕ) → from ≤ i → i < token → starts_range cs i ≡ true
      → lt_z z (low cs vs i) ≡ true
  pub over : (z : ℤ) → lt_z (high cs vs highest) z ≡ true → (i : ℕ) → from ≤ i → i < token → starts_range cs i ≡ true
      → lt_z (high cs vs i) z ≡ true
  pub kept : (i : ℕ) → from ≤ i → i < token → is_misplaced cs vs from i ≡ false

-- what is said of a token: nothing; or the extremes with it
abbrev pub Widened : List ℕ → List ℕ → ℕ → ℕ → Option Extremes → Type 0
Widened cs vs from token None = Unit {0}
Widened cs vs from token (Some extremes) = Spread cs vs from (token + 1) extremes.lowest extremes.highest
