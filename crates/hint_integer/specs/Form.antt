-- The grammar of a hint for integers (document 01, "Printing by hint"; RFC 2579, 3.1).
-- Assumes nothing.
use Rattle.std.specs.Prelude.{ℕ, ◌≤◌, Bool, cond, ◌&&◌, ◌||◌, List, Option, Some, None, eqb, length}
use Prim.Native.Char.{code}
use Rattle.buffer.specs.Buffer.{byte_at}
use Rattle.hint_integer.specs.declared.Form.{Form}
use Rattle.hint_integer.specs.declared.Form.TheVariants.{Base, Point}
use Rattle.hint_form.specs.Hint.{number_at, bounded, base_of}

-- d-N: a point before the last N digits, N from 1 to 10
unfoldable pub read_point : List ℕ → Option Form
read_point hint =
    cond
    (eqb (byte_at hint 0) (code "d")
    && eqb (byte_at hint 1) (code "-")
    && bounded hint 2 10
    && eqb (number_at hint 2).next (length hint))
    (Some (Point (number_at hint 2).value))
    None

-- the formats of integers
unfoldable pub integer_format : ℕ → Bool
integer_format b = eqb b (code "x") || eqb b (code "o") || eqb b (code "b") || eqb b (code "d")

-- a hint for integers: x, o, b, d or d-N
unfoldable pub read_form : List ℕ → Option Form
read_form hint =
    cond (eqb (length hint) 1 && integer_format (byte_at hint 0)) (Some (Base (base_of (byte_at hint 0)))) (read_point hint)

-- a form that can be printed by: a base from 2 to 16, or at most ten places; none too, which asks nothing
abbrev pub Usable : Option Form → Type 0
Usable (Some (Base base)) = (2 ≤ base) × (base ≤ 16)
Usable (Some (Point places)) = places ≤ 10
Usable None = Unit {0}
