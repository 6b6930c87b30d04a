-- The cut of what is left of a text at a place, piece by piece.
-- Assumes nothing.
use mathlib.Core.Path.{◌≡◌, refl, sym, ap, ◌∙◌}
use mathlib.Core.Bool.{Bool, true, false, cond}
use mathlib.Core.List.{List, [], ◌∷◌}
use Prim.Native.Nat.{ℕ, zero, suc, pred, ◌+◌, ◌≤◌, ◌<◌}
use native.Mathlib.Nat.{add-zero}
use native.Mathlib.Numerals.{add-one}
use native.Mathlib.Omega.{arith}
use lib.ListN.{length, get_or, drop, drop_of_length-le}
use lib.Seq.{drop-cons, drop-nil, drop-drop}
use Rattle.piece.specs.Piece.{Piece, gap, token, refusal, span, piece, size}
use Rattle.token.specs.Cut.{Ending, whole, Cut, starting_with, cut_from, cut}
use Rattle.lexicon.specs.Byte.{blank_byte}
use Rattle.lexicon.proofs.Places.{first_byte}
use Rattle.piece.proofs.Span.{span_more}
use Rattle.piece.proofs.Pieces.{Fit, piece_fits, blank_piece}

-- the cut of what is left of t at the place `at`
abbrev pub left : List ℕ → ℕ → Cut
left t at = cut_from at 0 (drop at t)

-- the cut that starts with the piece p at that place, and goes on after it
abbrev pub from_piece : List ℕ → ℕ → Piece → Cut
from_piece t at p = starting_with at (drop at t) p (left t (at + size p))

-- the cut that has no token
abbrev pub ended : Ending → Cut
ended e = record { tokens = []; ending = e }

pub left_whole : (t : List ℕ) → left t 0 ≡ cut t
unfolding cut
left_whole t = refl

-- bytes that belong to a piece before are passed
pass : (s : List ℕ) (at n : ℕ) → cut_from at n s ≡ cut_from (at + n) 0 (drop n s)
unfolding cut_from
pass [] at n = rw (drop-nil n)
pass (b ∷ bs) at zero = rw (add-zero at)
pass (b ∷ bs) at (suc n) =
    let e : suc at + n ≡ at + suc n = omega arith in
    pass bs (suc at) n ∙ ap (λ (k : ℕ). cut_from k 0 (drop n bs)) e

-- the piece p at the place `at`, where s starts, and what comes after its first byte
abbrev first_then : List ℕ → ℕ → List ℕ → Piece → Cut
first_then t at s p = starting_with at s p (cut_from (suc at) (pred (size p)) (drop (suc at) t))

step : (t : List ℕ) (at : ℕ) (p : Piece) → at < length t → piece (drop at t) ≡ p → left t at ≡ first_then t at (drop at t) p
unfolding cut_from
step t at p h e = go (drop at t) (drop-cons t at 0 h) e
  where
    go : (s : List ℕ) → s ≡ get_or t at 0 ∷ drop (suc at) t → piece s ≡ p → cut_from at 0 s ≡ first_then t at s p
    go s q r = rw q (ap (first_then t at (get_or t at 0 ∷ drop (suc at) t)) (ap piece (sym q) ∙ r))

-- what comes after a piece of m bytes is what is left after it
after : (t : List ℕ) (at m : ℕ) → 1 ≤ m → cut_from (suc at) (pred m) (drop (suc at) t) ≡ left t (at + m)
after t at m h =
    let e : suc at + pred m ≡ at + m = omega arith in
    pass (drop (suc at) t) (suc at) (pred m)
    ∙ ap (λ (s : List ℕ). cut_from (suc at + pred m) 0 s) (drop-drop (pred m) (suc at) t)
    ∙ ap (λ (k : ℕ). left t k) e

pub step_gap : (t : List ℕ) (at m : ℕ) → at < length t → piece (drop at t) ≡ gap m → 1 ≤ m → left t at ≡ left t (at + m)
step_gap t at m h e p = step t at (gap m) h e ∙ after t at m p

-- blanks at the start are passed at once or one by one
blanks_passed : (s : List ℕ) (at : ℕ) → cut_from at (span blank_byte s) s ≡ cut_from at 0 s
unfolding cut_from span
blanks_passed [] at = refl
blanks_passed (b ∷ bs) at = go (blank_byte b 0) refl
  where
    go : (r : Bool) → blank_byte b 0 ≡ r → cut_from at (cond r (suc (span blank_byte bs)) 0) (b ∷ bs) ≡ cut_from at 0 (b ∷ bs)
    go true e =
        let all : piece (b ∷ bs) ≡ gap (suc (span blank_byte bs)) =
        blank_piece (b ∷ bs) e ∙ ap (λ (r : Bool). gap (cond r (suc (span blank_byte bs)) 0)) e in
        sym (ap (λ (x : Piece). starting_with at (b ∷ bs) x (cut_from (suc at) (pred (size x)) bs)) all)
    go false e = refl

-- a blank at a place leaves what is left after it
pub step_blank : (t : List ℕ) (at : ℕ) → at < length t → blank_byte (get_or t at 0) 0 ≡ true → left t at ≡ left t (at + 1)
step_blank t at h e =
    let first = first_byte t at in
    let all : piece (drop at t) ≡ gap (suc (span blank_byte (drop (suc at) t))) =
    blank_piece (drop at t) (rw first e) ∙ ap gap (span_more blank_byte t at h e) in
    rw (add-one at) (step t at _ h all ∙ blanks_passed (drop (suc at) t) (suc at))

pub step_token : (t : List ℕ) (at c m : ℕ) → at < length t → piece (drop at t) ≡ token c m → 1 ≤ m
    → left t at ≡ from_piece t at (token c m)
step_token t at c m h e p =
    step t at (token c m) h e ∙ ap (starting_with at (drop at t) (token c m)) (after t at m p)

pub step_refusal : (t : List ℕ) (at r d : ℕ) → at < length t → piece (drop at t) ≡ refusal r d
    → left t at ≡ from_piece t at (refusal r d)
step_refusal t at r d h e = step t at (refusal r d) h e

pub step_end : (t : List ℕ) (at : ℕ) → length t ≤ at → left t at ≡ ended whole
unfolding cut_from
step_end t at h = rw (drop_of_length-le t h)

-- the piece at a place of a text
pub fit_at : (t : List ℕ) (at : ℕ) → at < length t → Fit (drop at t) (piece (drop at t))
fit_at t at h = rw (drop-cons t at 0 h) (piece_fits (get_or t at 0) (drop (suc at) t))
