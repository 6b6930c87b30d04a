-- Digits of a number at a base, one definition for the bases 2, 8, 10 and 16; the implied decimal point; and the number that digits
-- write.
-- Assumes nothing.
use Rattle.std.specs.Prelude.{ℕ, zero, suc, ◌+◌, ◌-◌, ◌*◌, ◌/◌, ◌%◌, true, false, cond, List, [], ◌∷◌, ◌++◌, leb, ltb}
use Prim.Native.Char.{code}

-- the byte of one digit: 0 to 9, then lower-case a to f
unfoldable pub glyph : ℕ → ℕ
glyph d = cond (ltb d 10) (code "0" + d) (code "a" + (d - 10))

-- the digits, in a number of steps at most
unfoldable pub digits_within : ℕ → ℕ → ℕ → List ℕ
digits_within zero base n = []
digits_within (suc steps) base n =
    elim (ltb n base) [ true ↦ glyph n ∷ [] | false ↦ digits_within steps base (n / base) ++ (glyph (n % base) ∷ []) ]

-- the digits of n, most significant first, without leading zeros: a number below the base is one digit, and any other has
-- the digits of its quotient by the base and then its remainder's. The quotient is less than the number, so n + 1 steps suffice
unfoldable pub digits : ℕ → ℕ → List ℕ
digits base n = digits_within (suc n) base n

-- the decimal digits of n with a point before the last ones, as many as said, and at least one digit before the point
unfoldable pub pointed : ℕ → ℕ → List ℕ
pointed zero n = digits 10 n ++ (code "." ∷ [])
pointed (suc places) n = pointed places (n / 10) ++ (glyph (n % 10) ∷ [])

-- octets as a big-endian unsigned number, after octets that were worth n
unfoldable pub big_endian : ℕ → List ℕ → ℕ
big_endian n [] = n
big_endian n (octet ∷ rest) = big_endian (n * 256 + octet) rest

-- the value of a digit's byte
unfoldable pub digit_value : ℕ → ℕ
digit_value b = cond (leb b (code "9")) (b - code "0") (b - code "a" + 10)

-- the number that digits write at a base, most significant first, after digits that were worth n
unfoldable pub numeral : ℕ → ℕ → List ℕ → ℕ
numeral base n [] = n
numeral base n (d ∷ ds) = numeral base (n * base + digit_value d) ds
