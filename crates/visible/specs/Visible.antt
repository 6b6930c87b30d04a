-- What people see of bytes in a line of a list and at a terminal.
-- Assumes nothing.
use Rattle.std.specs.Prelude.{ℕ, zero, suc, ◌+◌, ◌-◌, ◌/◌, ◌%◌, Bool, true, false, not, ◌&&◌, ◌||◌, List, [], ◌∷◌, ◌++◌, eqb, ltb, get_or}
use Prim.Native.Char.{code}
use Rattle.digit.specs.Digits.{glyph}
use Rattle.index.specs.Choice.{when◌then◌else◌}
use Rattle.position.specs.Margin.{is_inside}
use Rattle.visible.specs.declared.Manner.{Manner}

-- the control bytes of ASCII: those below 32, and 127
unfoldable pub is_control : ℕ → Bool
is_control b = ltb b 32 || eqb b 127

-- the byte before byte k, or 0 where k is the first
unfoldable pub byte_before : List ℕ → ℕ → ℕ
byte_before bytes k = when eqb k 0 then 0 else get_or bytes (k - 1) 0

-- byte k is one of the control bytes 128 to 159 of an 8-bit set: one that is no part of a character of UTF-8, or the second byte of the
-- character of that number, whose first is 194
unfoldable pub is_late_control : List ℕ → ℕ → Bool
is_late_control bytes k =
    when ltb (get_or bytes k 0) 128 then false else
    when ltb 159 (get_or bytes k 0) then false else
    when is_inside bytes k then eqb (byte_before bytes k) 194 else
    true

-- byte k is hidden in a line of a list: a control byte, or the backslash, which starts what is written for one
unfoldable pub breaks_line : List ℕ → ℕ → Bool
breaks_line bytes k = is_control (get_or bytes k 0) || eqb (get_or bytes k 0) (code "\\")

-- byte k is hidden at a terminal: a control byte but for the tab, which does no more than part words
unfoldable pub breaks_terminal : List ℕ → ℕ → Bool
breaks_terminal bytes k = (is_control (get_or bytes k 0) && not (eqb (get_or bytes k 0) 9)) || is_late_control bytes k

-- byte k is hidden where the bytes go
unfoldable pub is_hidden : Manner → List ℕ → ℕ → Bool
is_hidden manner bytes k = (manner.line && breaks_line bytes k) || (manner.terminal && breaks_terminal bytes k)

-- a byte as its number: \x and two lower-case hex digits
unfoldable pub escaped : ℕ → List ℕ
escaped b = code "\\" ∷ code "x" ∷ glyph (b / 16) ∷ glyph (b % 16) ∷ []

-- what is seen of byte k
unfoldable pub seen : Manner → List ℕ → ℕ → List ℕ
seen manner bytes k = when is_hidden manner bytes k then escaped (get_or bytes k 0) else get_or bytes k 0 ∷ []

-- what is seen of the n bytes from a place on
unfoldable pub visible : Manner → List ℕ → ℕ → ℕ → List ℕ
visible manner bytes from zero = []
visible manner bytes from (suc n) = visible manner bytes from n ++ seen manner bytes (from + n)
