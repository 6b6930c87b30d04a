-- Laws of the pieces of a hint, from any place on.
-- Assumes nothing.
use Prim.Native.Nat.{ℕ, zero, suc, ◌+◌, ◌-◌, ◌≤◌, ◌<◌}
use native.Mathlib.Omega.{arith}
use mathlib.Core.Path.{◌≡◌, refl, sym, ap, ◌∙◌}
use mathlib.Core.Bool.{Bool, true, false, cond, ◌&&◌}
use mathlib.Core.List.{List, [], ◌∷◌, map}
use lib.Dec.{leb}
use lib.ListN.{length}
use borrow.Author.Tests.{leb-true}
use Rattle.character.specs.Cut.{Cut, whole, stuck, before, cut, cut_within, stuck_at}
use Rattle.std.proofs.Common.{Some, None}
use Rattle.hint_form.specs.Hint.{Reading, none, is_piece, piece_at, piece_end, piece_size, read_hint, pieces_of, is_pieces, pieces_in}
use Rattle.hint_form.specs.declared.Piece.{Piece}
use Rattle.character.proofs.CutLaws.{from, from_start, from_end, from_stuck, from_item, stuck_before}
use Rattle.hint_form.proofs.HintLaws.{Allowed, piece_size_some, piece_size_none, piece_end_after, piece_allowed}

-- a list of pieces whose lengths their formats allow
abbrev pub AllAllowed : List Piece → Type 0
AllAllowed [] = Unit {0}
AllAllowed (p ∷ ps) = Allowed p × AllAllowed ps

-- the cut of a hint into pieces from a place on
abbrev pub cut_from : List ℕ → ℕ → Cut
cut_from hint i = from (piece_size hint) (length hint) i

-- from that place on the hint is pieces, to its end
abbrev pub Readable : List ℕ → ℕ → Type 0
Readable hint i = stuck_at (cut_from hint i) ≡ None

-- the places of a cut
abbrev pub places_in : Cut → List ℕ
places_in (whole places) = places
places_in (stuck i) = []

-- the pieces at these
abbrev pieces_at : List ℕ → Cut → List Piece
pieces_at hint c = map (piece_at hint) (places_in c)

module _ (hint : List ℕ) where
  -- the pieces from a place of a hint on
  abbrev pub pieces_from : ℕ → List Piece
  pieces_from i = pieces_at hint (cut_from hint i)

  -- a place at which the cut isn't stuck has a piece
  pub piece_there : (i : ℕ) → i < length hint → Readable hint i → is_piece hint i ≡ true
  unfolding stuck_at
  piece_there i h s = go (is_piece hint i) refl
    where
      go : (t : Bool) → is_piece hint i ≡ t → t ≡ true
      go true e = refl
      go false e =
          let none = from_stuck (piece_size hint) (length hint) i h (piece_size_none hint i e) in
          let at : Some i ≡ None = sym (ap stuck_at none) ∙ s in
          let z : ◌≡◌ {A = ℕ} 0 1 = cc in absurd (omega arith)

  step : (i : ℕ) → i < length hint → is_piece hint i ≡ true
      → cut_from hint i ≡ before i (cut_from hint (piece_end hint i))
  step i h t =
      from_item (piece_size hint) (length hint) i h (omega (arith, piece_size_some hint i t, piece_end_after hint i))
      ∙ ap (λ (k : ℕ). before i (cut_from hint k)) (piece_size_some hint i t)

  pub stuck_step : (i : ℕ) → i < length hint → is_piece hint i ≡ true
      → stuck_at (cut_from hint (piece_end hint i)) ≡ stuck_at (cut_from hint i)
  stuck_step i h t = sym (stuck_before i (cut_from hint (piece_end hint i))) ∙ ap stuck_at (sym (step i h t))

  pub pieces_step : (i : ℕ) → i < length hint → Readable hint i
      → pieces_from i ≡ piece_at hint i ∷ pieces_from (piece_end hint i)
  unfolding before stuck_at
  pieces_step i h s =
      let t = piece_there i h s in
      ap (pieces_at hint) (step i h t)
      ∙ go (cut_from hint (piece_end hint i)) (stuck_step i h t ∙ s)
    where
      go : (c : Cut) → stuck_at c ≡ None → pieces_at hint (before i c) ≡ piece_at hint i ∷ pieces_at hint c
      go (whole places) e = refl
      go (stuck j) e = let z : ◌≡◌ {A = ℕ} 0 1 = cc in absurd (omega arith)

  pub pieces_end : (i : ℕ) → length hint ≤ i → pieces_from i ≡ []
  pieces_end i h = ap (pieces_at hint) (from_end (piece_size hint) (length hint) i h)

  -- each of them is allowed
  within_allowed : (k i : ℕ) → AllAllowed (pieces_at hint (cut_within k (piece_size hint) (length hint) i))
  unfolding cut_within before
  within_allowed zero i = tt
  within_allowed (suc k) i = go (λ (m : ℕ). within_allowed k m) (leb (length hint) i) (piece_size hint i) refl refl
    where
      more : (c : Cut) → is_piece hint i ≡ true → AllAllowed (pieces_at hint c) → AllAllowed (pieces_at hint (before i c))
      more (whole places) t a = (piece_allowed hint i t, a)
      more (stuck j) t a = tt

      there : (n : ℕ) → piece_size hint i ≡ suc n → (t : Bool) → is_piece hint i ≡ t → t ≡ true
      there n f true e = refl
      there n f false e = absurd (omega (arith, piece_size_none hint i e))

      go : ((m : ℕ) → AllAllowed (pieces_at hint (cut_within k (piece_size hint) (length hint) m)))
          → (t : Bool) (n : ℕ) → leb (length hint) i ≡ t → piece_size hint i ≡ n
          → AllAllowed (pieces_at hint (cut_within (suc k) (piece_size hint) (length hint) i))
      go deeper true n e f = rw (e, cut_within) tt
      go deeper false zero e f = rw (e, f, cut_within) tt
      go deeper false (suc n) e f =
          let rest : Cut = cut_within k (piece_size hint) (length hint) (i + suc n) in
          rw (e, f, cut_within) (more rest (there n f (is_piece hint i) refl) (deeper (i + suc n)))

  pub pieces_allowed : (i : ℕ) → AllAllowed (pieces_from i)
  pieces_allowed i = within_allowed (length hint - i) i

  -- a hint that is pieces: its pieces, that it has one, and that its cut is whole
  pub hint_pieces : is_pieces (read_hint hint) ≡ true
      → (pieces_in (read_hint hint) ≡ pieces_from 0) × (0 < length hint) × (Readable hint 0)
  unfolding read_hint is_pieces pieces_in pieces_of stuck_at
  hint_pieces h = go (leb 1 (length hint)) (leb (length hint) 255) refl h
    where
      sized : (c : Cut) → is_pieces (pieces_of hint c) ≡ true
          → (pieces_in (pieces_of hint c) ≡ pieces_at hint c) × (stuck_at c ≡ None)
      sized (whole places) e = (refl, refl)
      sized (stuck i) e = let z : ◌≡◌ {A = ℕ} 0 1 = cc in absurd (omega arith)

      reading : Bool → Reading
      reading sized = cond sized (pieces_of hint (cut (piece_size hint) (length hint))) none

      go : (low high : Bool) → leb 1 (length hint) ≡ low → is_pieces (reading (low && high)) ≡ true
          → (pieces_in (reading (low && high)) ≡ pieces_from 0) × (0 < length hint) × (Readable hint 0)
      go true true e p =
          let known = sized (cut (piece_size hint) (length hint)) p in
          let start = from_start (piece_size hint) (length hint) in
          (known.0 ∙ ap (pieces_at hint) (sym start), leb-true 1 (length hint) e, ap stuck_at start ∙ known.1)
      go true false e p = let z : ◌≡◌ {A = ℕ} 0 1 = cc in absurd (omega arith)
      go false high e p = let z : ◌≡◌ {A = ℕ} 0 1 = cc in absurd (omega arith)
