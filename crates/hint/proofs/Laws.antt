-- What holds of the two calls' texts: four bytes for each octet at most, 64 bytes for an integer at most.
-- Assumes nothing.
use Prim.Native.Nat.{ℕ, zero, suc, ◌-◌, ◌*◌, ◌≤◌}
use native.Mathlib.Omega.{arith}
use mathlib.Core.Path.{◌≡◌, refl, sym, ap, ◌∙◌, subst}
use mathlib.Core.Bool.{Bool, true, false}
use mathlib.Core.List.{List, [], ◌∷◌}
use lib.Dec.{leb}
use lib.ListN.{length}
use Rattle.hint_form.specs.Hint.{pieces, read_hint, is_pieces, pieces_in}
use Rattle.hint_piece.specs.Use.{piece_text, printed, repeats, uses_start, uses_end}
use Rattle.hint_form.specs.declared.Piece.{Piece}
use Rattle.hint.specs.Print.{turn, printing, printing_within}
use Rattle.hint_piece.proofs.Outcomes.{size_of, joined_size}
use Rattle.digit.proofs.Sizes.{Octets}
use Rattle.hint_piece.proofs.Bounds.{uses_size}
use Rattle.hint_form.proofs.PieceLaws.{AllAllowed, pieces_from, pieces_allowed, hint_pieces}
use Rattle.hint_piece.proofs.UsesLaws.{uses_start_near, uses_end_is}
use Rattle.hint.proofs.PrintingLaws.{turn_allowed}

-- printing from an octet on prints four bytes at most for each octet left
within_size : (steps : ℕ) (ps : List Piece) (value : List ℕ) (at : ℕ) → AllAllowed ps → Octets value
    → size_of (printing_within steps ps value at) ≤ 4 * (length value - at)
unfolding printing_within
within_size zero ps value at a h = omega arith
within_size (suc steps) [] value at a h = omega arith
within_size (suc steps) (p ∷ ps) value at a h =
    go (within_size steps (turn p ps) value (uses_end p value at) (turn_allowed p ps a) h) (leb (length value) at) refl
  where
    end : ℕ
    end = uses_end p value at

    go : size_of (printing_within steps (turn p ps) value end) ≤ 4 * (length value - end)
        → (t : Bool) → leb (length value) at ≡ t
        → size_of (printing_within (suc steps) (p ∷ ps) value at) ≤ 4 * (length value - at)
    go rest true e = rw (e, printing_within) (omega arith)
    go rest false e =
        let first = uses_size p value a.0.0 a.0.1 h (repeats p value at) (uses_start p at) in
        let both = joined_size (piece_text p value at) (printing_within steps (turn p ps) value end) in
        rw (e, printing_within) (omega (arith, first, both, uses_end_is p value at, uses_start_near p at))

-- the text of an accepted value is four bytes for each octet at most
pub output_bound : (hint value : List ℕ) (ps : List Piece) (t : List ℕ) → Octets value
    → read_hint hint ≡ pieces ps → printing ps value ≡ printed t
    → length t ≤ 4 * length value
unfolding printing is_pieces pieces_in
output_bound hint value ps t h r e =
    let known = hint_pieces hint (ap is_pieces r) in
    let these : ps ≡ pieces_from hint 0 = sym (ap pieces_in r) ∙ known.0 in
    let allowed : AllAllowed ps = subst AllAllowed (sym these) (pieces_allowed hint 0) in
    let size = within_size (length value) ps value 0 allowed h in
    omega (arith, size, ap size_of e)
