-- The bits of numbers and of names, by which a tree has its entries.
-- Assumes nothing.
use Rattle.std.specs.Prelude.{Bool, false, cond, List, ℕ, ◌-◌, ◌/◌, ◌%◌, ◌^◌, eqb, ltb, length, get_or}

-- bit d of a number of 32 bits, from the lowest on
abbrev pub bit : ℕ → ℕ → Bool
bit number d = cond (ltb d 32) (eqb (number / 2 ^ d % 2) 1) false

-- the byte that holds bit d of a name of so many bytes: the last one, which tells the most names apart, and then those from the first on
abbrev pub bit_byte : ℕ → ℕ → ℕ
bit_byte size d = cond (ltb d 8) (size - 1) (d / 8 - 1)

-- bit d of a name, eight for each byte, from the lowest on
abbrev pub name_bit : List ℕ → ℕ → Bool
name_bit s d = cond (ltb (d / 8) (length s)) (bit (get_or s (bit_byte (length s) d) 0) (d % 8)) false
