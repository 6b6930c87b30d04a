-- The grammar of a hint for octets (document 01, "Printing by hint"; RFC 2579, 3.1). A hint for integers has the same numbers
-- and letters.
-- A piece begins with a digit or `*`, and a separator or terminator is neither, so each hint reads in one way at most.
-- Assumes nothing.
use Rattle.std.specs.Prelude.{ℕ, zero, suc, ◌+◌, ◌-◌, ◌*◌, Bool, true, false, cond, not, ◌&&◌, ◌||◌, List, [], Option, Some, None, map, leb, ltb, eqb, length}
use Prim.Native.Char.{code}
use Rattle.index.specs.Choice.{when◌then◌else◌}
use Rattle.buffer.specs.Buffer.{byte_at}
use Rattle.character.specs.Cut.{Cut, whole, stuck, cut}
use Rattle.hint_form.specs.declared.Piece.{Piece}
use Rattle.hint_form.specs.declared.Number.{Number}

-- a decimal digit
unfoldable pub digit : ℕ → Bool
digit b = leb (code "0") b && leb b (code "9")

-- a byte that may be a separator or a terminator: 32 to 126, no digit and no `*`
unfoldable pub mark : ℕ → Bool
mark b = leb 32 b && leb b 126 && not (digit b) && not (eqb b (code "*"))

-- the separator or terminator at a place, if there is one
unfoldable pub mark_at : List ℕ → ℕ → Option ℕ
mark_at hint i = cond (mark (byte_at hint i)) (Some (byte_at hint i)) None

-- whether there is one
abbrev pub has_mark : Option ℕ → Bool
has_mark (Some b) = true
has_mark None = false

-- how many bytes it has
unfoldable pub mark_size : Option ℕ → ℕ
mark_size (Some b) = 1
mark_size None = 0

-- the number at a place, of so many digits at most, after digits that were worth n; and the place after it
unfoldable pub number_after : ℕ → ℕ → List ℕ → ℕ → Number
number_after zero n hint i = record { value = n; next = i }
number_after (suc more) n hint i =
    cond (digit (byte_at hint i))
    (number_after more (n * 10 + (byte_at hint i - code "0")) hint (i + 1))
    (record { value = n; next = i })

-- the number at a place. No number of a hint is over 255, so three digits are read; a fourth can't be the format that follows
unfoldable pub number_at : List ℕ → ℕ → Number
number_at hint i = number_after 3 0 hint i

-- a number with this first byte has no leading zero and is from 1 to a bound
unfoldable pub allowed : ℕ → ℕ → ℕ → Bool
allowed first value most = not (eqb first (code "0")) && ltb 0 value && leb value most

-- such a number stands at a place
unfoldable pub bounded : List ℕ → ℕ → ℕ → Bool
bounded hint i most = allowed (byte_at hint i) (number_at hint i).value most

-- the formats that print octets as a number
unfoldable pub numeric : ℕ → Bool
numeric format = eqb format (code "x") || eqb format (code "d") || eqb format (code "o")

-- the formats that pass characters on
unfoldable pub passes : ℕ → Bool
passes format = eqb format (code "a") || eqb format (code "t")

-- the base that a format letter means: x 16, o 8, b 2, and d 10
unfoldable pub base_of : ℕ → ℕ
base_of format = when eqb format (code "x") then 16 else when eqb format (code "o") then 8 else when eqb format (code "b") then 2 else 10

-- the greatest length that a format allows: 8 for x d o, 255 for a t; no other byte is a format
unfoldable pub longest : ℕ → ℕ
longest format = when numeric format then 8 else when passes format then 255 else 0

-- the repeat indicator `*` at a place
unfoldable pub starred : List ℕ → ℕ → Bool
starred hint i = eqb (byte_at hint i) (code "*")

-- where the length of the piece at i starts
unfoldable pub length_place : List ℕ → ℕ → ℕ
length_place hint i = cond (starred hint i) (i + 1) i

-- where its format stands
unfoldable pub format_place : List ℕ → ℕ → ℕ
format_place hint i = (number_at hint (length_place hint i)).next

-- the separator of the piece at i, if it has one
unfoldable pub separator_of : List ℕ → ℕ → Option ℕ
separator_of hint i = mark_at hint (format_place hint i + 1)

-- its terminator, if it has one: only after `*` and a separator
unfoldable pub terminator_of : List ℕ → ℕ → Option ℕ
terminator_of hint i = cond (starred hint i && has_mark (separator_of hint i)) (mark_at hint (format_place hint i + 2)) None

-- a piece starts at i: its length is allowed by its format
unfoldable pub is_piece : List ℕ → ℕ → Bool
is_piece hint i = bounded hint (length_place hint i) (longest (byte_at hint (format_place hint i)))

-- the piece at i
unfoldable pub piece_at : List ℕ → ℕ → Piece
piece_at hint i = record {
  starred = starred hint i;
  size = (number_at hint (length_place hint i)).value;
  format = byte_at hint (format_place hint i);
  separator = separator_of hint i;
  terminator = terminator_of hint i;
}

-- where the piece at i ends
unfoldable pub piece_end : List ℕ → ℕ → ℕ
piece_end hint i = format_place hint i + 1 + mark_size (separator_of hint i) + mark_size (terminator_of hint i)

-- how many bytes the piece at i has, 0 where none starts there
unfoldable pub piece_size : List ℕ → ℕ → ℕ
piece_size hint i = cond (is_piece hint i) (piece_end hint i - i) 0

-- what a hint for octets is: pieces, or no hint
pub data Reading : Type 0 where
  pieces : List Piece → Reading
  none : Reading

-- the pieces at the places of a cut, or no hint
unfoldable pub pieces_of : List ℕ → Cut → Reading
pieces_of hint (whole places) = pieces (map (piece_at hint) places)
pieces_of hint (stuck i) = none

-- a hint for octets: 1 to 255 bytes that are pieces
unfoldable pub read_hint : List ℕ → Reading
read_hint hint = cond (leb 1 (length hint) && leb (length hint) 255) (pieces_of hint (cut (piece_size hint) (length hint))) none

-- what stands at a place of a hint: a piece and the place after it, or none
unfoldable pub found : List ℕ → ℕ → Option (Piece × ℕ)
found hint i = cond (is_piece hint i) (Some (piece_at hint i, piece_end hint i)) None

-- whether a hint is pieces
unfoldable pub is_pieces : Reading → Bool
is_pieces (pieces ps) = true
is_pieces none = false

-- its pieces
unfoldable pub pieces_in : Reading → List Piece
pieces_in (pieces ps) = ps
pieces_in none = []
