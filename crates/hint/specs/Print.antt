-- Printing octets by pieces (document 01, "Printing by hint"): the pieces in turn, the last of which repeats.
-- Assumes nothing.
use Rattle.std.specs.Prelude.{ℕ, zero, suc, true, false, List, [], ◌∷◌, leb, length}
use Rattle.hint_form.specs.declared.Piece.{Piece}
use Rattle.hint_piece.specs.Use.{Outcome, printed, joined, uses_end, piece_text}

-- the pieces after one; the last piece repeats
unfoldable pub turn : Piece → List Piece → List Piece
turn p [] = p ∷ []
turn p (q ∷ ps) = q ∷ ps

-- printing from a place of the value on by the pieces in turn, in a number of steps at most
unfoldable pub printing_within : ℕ → List Piece → List ℕ → ℕ → Outcome
printing_within zero ps value at = printed []
printing_within (suc steps) [] value at = printed []
printing_within (suc steps) (p ∷ ps) value at =
    elim (leb (length value) at) [
      | true ↦ printed []
      | false ↦
          joined (piece_text p value at) (printing_within steps (turn p ps) value (uses_end p value at))
    ]

-- the whole value. A piece takes an octet at least, the count or one of its length, so as many steps as octets suffice
unfoldable pub printing : List Piece → List ℕ → Outcome
printing ps value = printing_within (length value) ps value 0
