-- What is wrong with a hint, and where: the first byte after which no good hint can begin so; or the hint's length, where only more is
-- missing. A hint for octets that has more than 255 bytes is wrong at byte 255, if nothing is wrong before it.
-- Assumes nothing.
use Rattle.std.specs.Prelude.{ℕ, ◌+◌, Bool, true, false, not, ◌||◌, List, Option, Some, None, leb, ltb, eqb, length, take}
use Prim.Native.Char.{code}
use Rattle.index.specs.Choice.{when◌then◌else◌}
use Rattle.buffer.specs.Buffer.{byte_at}
use Rattle.character.specs.Cut.{cut, stuck_at}
use Rattle.hint_form.specs.Hint.{digit, number_at, longest, length_place, piece_size}
use Rattle.hint_form.specs.declared.fault.Fault.{Fault}
use Rattle.hint_form.specs.declared.fault.Fault.TheVariants.{Early, NoLength, Zero, Large, NoFormat, Wide, Long, NoForm}

-- at the place behind a length that no format or not this one allows: the hint ends there, the byte is no format, or one for numbers,
-- whose length is over 8
unfoldable pub format_fault : List ℕ → ℕ → Fault
format_fault hint place =
    when leb (length hint) place then Early (length hint)
    else when eqb (longest (byte_at hint place)) 0 then NoFormat place
    else Wide place

-- where a length should start, of a piece that is none: the hint ends there, a zero or no digit stands there, the third digit makes it
-- larger than 255, or the fault is behind it
unfoldable pub length_fault : List ℕ → ℕ → Fault
length_fault hint start =
    when leb (length hint) start then Early (length hint)
    else when eqb (byte_at hint start) (code "0") then Zero start
    else when not (digit (byte_at hint start)) then NoLength start
    else when ltb 255 (number_at hint start).value then Large (start + 2)
    else format_fault hint (number_at hint start).next

-- where no piece starts, if that is anywhere
abbrev pub search_fault : List ℕ → Option ℕ → Option Fault
search_fault hint (Some i) = Some (length_fault hint (length_place hint i))
search_fault hint None = None

-- of bytes that should be pieces
unfoldable pub pieces_fault : List ℕ → Option Fault
pieces_fault hint = search_fault hint (stuck_at (cut (piece_size hint) (length hint)))

-- of a hint that goes on behind these bytes, and is too long
abbrev pub longer : Option Fault → Fault
longer None = Long
longer (Some (Early place)) = Long
longer (Some (NoLength place)) = NoLength place
longer (Some (Zero place)) = Zero place
longer (Some (Large place)) = Large place
longer (Some (NoFormat place)) = NoFormat place
longer (Some (Wide place)) = Wide place
longer (Some Long) = Long
longer (Some (NoForm place)) = NoForm place

-- of a hint for octets
unfoldable pub octets_fault : List ℕ → Option Fault
octets_fault hint =
    when eqb (length hint) 0 then Some (Early 0)
    else when leb (length hint) 255 then pieces_fault hint
    else Some (longer (pieces_fault (take 255 hint)))

-- nothing is wrong
abbrev pub is_sound : Option Fault → Bool
is_sound None = true
is_sound (Some fault) = false

-- of a hint that starts with d-: a digit from 1 to 9, or 10, and the end
unfoldable pub places_fault : List ℕ → Option Fault
places_fault hint =
    when eqb (byte_at hint 2) (code "0") then Some (NoForm 2)
    else when not (digit (byte_at hint 2)) then Some (NoForm 2)
    else when eqb (length hint) 3 then None
    else when not (eqb (byte_at hint 2) (code "1")) then Some (NoForm 3)
    else when not (eqb (byte_at hint 3) (code "0")) then Some (NoForm 3)
    else when eqb (length hint) 4 then None
    else Some (NoForm 4)

-- of a hint of two bytes or more, the first of which is a format: d- and the places
unfoldable pub point_fault : List ℕ → Option Fault
point_fault hint =
    when not (eqb (byte_at hint 0) (code "d")) then Some (NoForm 1)
    else when not (eqb (byte_at hint 1) (code "-")) then Some (NoForm 1)
    else when eqb (length hint) 2 then Some (Early 2)
    else places_fault hint

-- a format of integers
unfoldable pub integer_letter : ℕ → Bool
integer_letter b = eqb b (code "x") || (eqb b (code "o") || (eqb b (code "b") || eqb b (code "d")))

-- of a hint for integers: x, o, b, d, or d-1 to d-10
unfoldable pub integer_fault : List ℕ → Option Fault
integer_fault hint =
    when eqb (length hint) 0 then Some (Early 0)
    else when not (integer_letter (byte_at hint 0)) then Some (NoForm 0)
    else when eqb (length hint) 1 then None
    else point_fault hint
