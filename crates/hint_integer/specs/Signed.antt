-- Printing integers by a form (document 01, "Printing by hint").
-- Assumes nothing.
use Rattle.std.specs.Prelude.{ℕ, suc, Bool, Option, Some, None, List, [], ◌∷◌, leb, ltb, ℤ, pos, negsuc}
use Prim.Native.Char.{code}
use Rattle.digit.specs.Digits.{digits, pointed}
use Rattle.hint_integer.specs.declared.Form.{Form}
use Rattle.hint_integer.specs.declared.Form.TheVariants.{Base, Point}

-- the digits of a number that isn't negative; by no form there are none
unfoldable pub magnitude : Option Form → ℕ → List ℕ
magnitude (Some (Base base)) n = digits base n
magnitude (Some (Point places)) n = pointed places n
magnitude None n = []

-- below zero a minus and then the magnitude; by no form a minus alone or nothing
unfoldable pub signed : Option Form → ℤ → List ℕ
signed form (pos n) = magnitude form n
signed form (negsuc n) = code "-" ∷ magnitude form (suc n)

-- from -2147483648 to 4294967295; `negsuc n` is -(n + 1)
unfoldable pub in_range : ℤ → Bool
in_range (pos n) = leb n 4294967295
in_range (negsuc n) = ltb n 2147483648
