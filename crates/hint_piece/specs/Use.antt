-- Printing octets by one piece (document 01, "Printing by hint"): its uses, the octets of a use.
-- Assumes nothing.
use Rattle.std.specs.Prelude.{ℕ, zero, suc, ◌+◌, ◌*◌, true, false, cond, ◌&&◌, List, [], ◌∷◌, ◌++◌, Option, Some, None, leb, eqb, length, take, drop}
use Rattle.index.specs.Choice.{when◌then◌else◌}
use Rattle.buffer.specs.Buffer.{byte_at}
use Rattle.hint_form.specs.Hint.{base_of, passes, has_mark}
use Rattle.digit.specs.Digits.{digits, big_endian}
use Rattle.character.specs.Cut.{Cut, whole, stuck}
use Rattle.character.specs.Character.{characters}
use Rattle.hint_form.specs.declared.Piece.{Piece}

-- what printing comes to: the bytes, or the place of the first octet that isn't of its format
pub data Outcome : Type 0 where
  printed : List ℕ → Outcome
  fault : ℕ → Outcome

-- one after the other; the first fault decides
unfoldable pub joined : Outcome → Outcome → Outcome
joined (printed a) (printed b) = printed (a ++ b)
joined (printed a) (fault place) = fault place
joined (fault place) o = fault place

-- octets that were cut into characters are printed as they are; the place of a fault counts from the value's start
unfoldable pub passed : ℕ → List ℕ → Cut → Outcome
passed at octets (whole places) = printed octets
passed at octets (stuck i) = fault (at + i)

-- the octets of one use, which start at a place of the value: a and t pass them on, x d o print a big-endian number
unfoldable pub use_text : ℕ → ℕ → List ℕ → Outcome
use_text format at octets =
    cond (passes format) (passed at octets (characters format octets))
    (printed (digits (base_of format) (big_endian 0 octets)))

-- one byte, or none
unfoldable pub optional : Option ℕ → List ℕ
optional (Some b) = b ∷ []
optional None = []

-- the byte that follows a use after which the next octet is at a place and so many uses are left: none where no octet
-- remains; the terminator, if any, after the last; else the separator, if any
unfoldable pub following : Piece → ℕ → List ℕ → ℕ → Option ℕ
following p left value next =
    when leb (length value) next then None
    else when eqb left 0 && has_mark p.terminator then p.terminator
    else p.separator

-- one use at a place, with so many left after it: its octets' text and what follows
unfoldable pub one_use : Piece → ℕ → List ℕ → ℕ → Outcome
one_use p left value at =
    joined (use_text p.format at (take p.size (drop at value))) (printed (optional (following p left value (at + p.size))))

-- so many uses of a piece, the first at a place; with no octet left printing ends
unfoldable pub uses : ℕ → Piece → List ℕ → ℕ → Outcome
uses zero p value at = printed []
uses (suc left) p value at =
    elim (leb (length value) at) [
      | true ↦ printed []
      | false ↦ joined (one_use p left value at) (uses left p value (at + p.size))
    ]

-- how often a piece is used: after `*` the octet at its place is the repeat count
unfoldable pub repeats : Piece → List ℕ → ℕ → ℕ
repeats p value at = cond p.starred (byte_at value at) 1

-- where its uses start: after the repeat count
unfoldable pub uses_start : Piece → ℕ → ℕ
uses_start p at = cond p.starred (at + 1) at

-- where the octets of a piece end; past the value's end where fewer were left
unfoldable pub uses_end : Piece → List ℕ → ℕ → ℕ
uses_end p value at = uses_start p at + repeats p value at * p.size

-- the text of a piece whose octets, the repeat count first, start at a place
abbrev pub piece_text : Piece → List ℕ → ℕ → Outcome
piece_text p value at = uses (repeats p value at) p value (uses_start p at)
