-- Laws of printing by pieces: the pieces in turn, and printing from any octet on, one step at a time.
-- Assumes nothing.
use Prim.Native.Nat.{ℕ, zero, suc, ◌-◌, ◌≤◌, ◌<◌}
use native.Mathlib.Nat.{sub-zero}
use native.Mathlib.Omega.{arith}
use mathlib.Core.Path.{◌≡◌, refl, sym, ap, ◌∙◌, subst}
use mathlib.Core.Bool.{Bool, true, false}
use mathlib.Core.List.{List, [], ◌∷◌}
use lib.Dec.{leb}
use lib.ListN.{length}
use borrow.Author.Tests.{le-leb, lt-leb, leb-true, leb-false}
use Rattle.hint_form.specs.Hint.{piece_at, piece_end}
use Rattle.hint_piece.specs.Use.{piece_text, Outcome, printed, joined, uses_end}
use Rattle.hint_form.specs.declared.Piece.{Piece}
use Rattle.hint.specs.Print.{turn, printing, printing_within}
use Rattle.hint_form.proofs.PieceLaws.{Readable, AllAllowed, pieces_from, piece_there, stuck_step, pieces_step, pieces_end, pieces_allowed}
use Rattle.hint_piece.proofs.UsesLaws.{uses_end_after}

-- the pieces in turn are allowed too
pub turn_allowed : (p : Piece) (ps : List Piece) → AllAllowed (p ∷ ps) → AllAllowed (turn p ps)
unfolding turn
turn_allowed p [] h = h
turn_allowed p (q ∷ ps) h = h.1

module _ (value : List ℕ) where
  -- as many steps as are enough print the same
  within_enough : (j k : ℕ) (ps : List Piece) (at : ℕ) → AllAllowed ps → length value - at ≤ j → length value - at ≤ k
      → printing_within j ps value at ≡ printing_within k ps value at
  unfolding printing_within
  within_enough zero zero ps at a p q = refl
  within_enough zero (suc k) [] at a p q = refl
  within_enough zero (suc k) (x ∷ ps) at a p q = sym (rw (le-leb (length value) at (omega arith), printing_within))
  within_enough (suc j) zero [] at a p q = refl
  within_enough (suc j) zero (x ∷ ps) at a p q = rw (le-leb (length value) at (omega arith), printing_within)
  within_enough (suc j) (suc k) [] at a p q = refl
  within_enough (suc j) (suc k) (x ∷ ps) at a p q =
      go (λ r s. within_enough j k (turn x ps) (uses_end x value at) (turn_allowed x ps a) r s) (leb (length value) at) refl
    where
      end : ℕ
      end = uses_end x value at

      go : (length value - end ≤ j → length value - end ≤ k
          → printing_within j (turn x ps) value end ≡ printing_within k (turn x ps) value end)
          → (t : Bool) → leb (length value) at ≡ t
          → printing_within (suc j) (x ∷ ps) value at ≡ printing_within (suc k) (x ∷ ps) value at
      go same true e = rw (e, printing_within)
      go same false e =
          let after = uses_end_after x value at a.0.0 in
          let below = leb-false (length value) at e in
          rw (e, printing_within) (ap (joined (piece_text x value at)) (same (omega arith) (omega arith)))

  -- printing from an octet on
  abbrev pub print_from : List Piece → ℕ → Outcome
  print_from ps at = printing_within (length value - at) ps value at

  -- from the start it is printing, at the end nothing, and else one piece and then the others
  pub print_start : (ps : List Piece) → print_from ps 0 ≡ printing ps value
  unfolding printing
  print_start ps = rw (sub-zero (length value))

  pub print_end : (ps : List Piece) (at : ℕ) → AllAllowed ps → length value ≤ at → print_from ps at ≡ printed []
  unfolding printing_within
  print_end ps at a h = within_enough (length value - at) 0 ps at a (omega arith) (omega arith)

  pub print_step : (p : Piece) (ps : List Piece) (at : ℕ) → AllAllowed (p ∷ ps) → at < length value
      → print_from (p ∷ ps) at ≡ joined (piece_text p value at) (print_from (turn p ps) (uses_end p value at))
  unfolding printing_within
  print_step p ps at a h =
      let after = uses_end_after p value at a.0.0 in
      let end : ℕ = uses_end p value at in
      let same = within_enough (length value) (length value - end) (turn p ps) end (turn_allowed p ps a) (omega arith) (omega arith) in
      within_enough (length value - at) (suc (length value)) (p ∷ ps) at a (omega arith) (omega arith)
      ∙ rw (lt-leb (length value) at h, printing_within)
      (ap (joined (piece_text p value at)) same)

-- after the piece at a place, the pieces in turn are those from another place on
abbrev pub Turned : List ℕ → ℕ → ℕ → Type 0
Turned hint i next = turn (piece_at hint i) (pieces_from hint (piece_end hint i)) ≡ pieces_from hint next

module _ (hint : List ℕ) where
  -- that is the next piece's place, or after the last piece its own
  pub turn_next : (i : ℕ) → i < length hint → Readable hint i → piece_end hint i < length hint → Turned hint i (piece_end hint i)
  unfolding turn
  turn_next i h s l =
      let t = piece_there hint i h s in
      let more = pieces_step hint (piece_end hint i) l (stuck_step hint i h t ∙ s) in
      ap (turn (piece_at hint i)) more ∙ sym more

  pub turn_last : (i : ℕ) → i < length hint → Readable hint i → length hint ≤ piece_end hint i → Turned hint i i
  unfolding turn
  turn_last i h s l =
      let last = pieces_end hint (piece_end hint i) l in
      ap (turn (piece_at hint i)) last ∙ sym (pieces_step hint i h s ∙ ap (λ (ps : List Piece). piece_at hint i ∷ ps) last)

  -- either way there is such a place
  pub turn_either : (i : ℕ) → i < length hint → Readable hint i → (next : ℕ) × Turned hint i next
  turn_either i h s = go (leb (length hint) (piece_end hint i)) refl
    where
      go : (t : Bool) → leb (length hint) (piece_end hint i) ≡ t → (next : ℕ) × Turned hint i next
      go true e = (i, turn_last i h s (leb-true (length hint) (piece_end hint i) e))
      go false e = (piece_end hint i, turn_next i h s (leb-false (length hint) (piece_end hint i) e))

-- one turn: the text of the piece at a place, and then printing by the pieces in turn
pub print_turn : (hint value : List ℕ) (cursor at next : ℕ) → cursor < length hint → Readable hint cursor
    → at < length value → Turned hint cursor next
    → print_from value (pieces_from hint cursor) at
    ≡ joined (piece_text (piece_at hint cursor) value at)
    (print_from value (pieces_from hint next) (uses_end (piece_at hint cursor) value at))
print_turn hint value cursor at next h s l t =
    let p : Piece = piece_at hint cursor in
    let rest : List Piece = pieces_from hint (piece_end hint cursor) in
    let these = pieces_step hint cursor h s in
    let allowed : AllAllowed (p ∷ rest) = subst AllAllowed these (pieces_allowed hint cursor) in
    ap (λ (ps : List Piece). print_from value ps at) these
    ∙ print_step value p rest at allowed l
    ∙ ap (λ (ps : List Piece). joined (piece_text p value at) (print_from value ps (uses_end p value at))) t
