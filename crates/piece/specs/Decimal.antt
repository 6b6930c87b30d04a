-- The value of decimal digits.
-- Assumes nothing.
use Rattle.std.specs.Prelude.{List, [], ◌∷◌, ℕ, ◌+◌, ◌-◌, ◌*◌, min}

-- the value of decimal digits, most significant first, that follow digits of the value n
unfoldable pub decimal_after : ℕ → List ℕ → ℕ
decimal_after n [] = n
decimal_after n (d ∷ ds) = decimal_after (10 * n + (d - 48)) ds

-- the value of decimal digits, most significant first
abbrev pub decimal : List ℕ → ℕ
decimal ds = decimal_after 0 ds

-- one more than the largest number: what stands for every larger value in the code
abbrev pub too_large : ℕ
too_large = 4294967296

-- a value, or what stands for it
abbrev pub capped : ℕ → ℕ
capped value = min value too_large
