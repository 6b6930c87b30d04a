-- Which words are the same, and where a piece of a text ends, by what the code found at its place. Assumes nothing.
use Prim.Native.Nat.{ℕ, ◌+◌, ◌≤◌, ◌<◌}
use mathlib.Core.Path.{◌≡◌, refl, sym, subst, ◌∙◌, ap}
use mathlib.Core.List.{List, [], ◌∷◌}
use mathlib.Core.Bool.{◌&&◌}
use native.Mathlib.Nat.{add-zero}
use native.Mathlib.Omega.{arith}
use lib.Dec.{eqb}
use lib.Pointwise.{pointwise}
use lib.ListN.{length, drop, length-drop, drop_of_length-le}
use Rattle.std.specs.Prelude.{Result, Ok, Err}
use Rattle.piece.specs.Piece.{Piece, gap, token, refusal, size, piece, punctuation}
use Rattle.piece.specs.Found.{found_at}
use Rattle.piece.specs.declared.Found.{Found}
use Rattle.piece.proofs.Pieces.{Fit}
use Rattle.token.proofs.Left.{fit_at}
use Rattle.lexicon.specs.Word.{between, same}
use Rattle.lexicon.specs.Byte.{class_of, class_in, rows}
use Rattle.outside.specs.Outside.{behind, standing}

-- byte strings are compared as spellings are
pub same_is : (a b : List ℕ) → pointwise eqb a b ≡ same a b
unfolding same
same_is [] [] = refl
same_is [] (y ∷ ys) = refl
same_is (x ∷ xs) [] = refl
same_is (x ∷ xs) (y ∷ ys) = ap (λ r. eqb x y && r) (same_is xs ys)

module _ (t : List ℕ) (at : ℕ) where
  -- a piece ends where it was found to, and a refusal where it starts
  abbrev pub Ends : Result Found (ℕ × ℕ) → Type 0
  Ends (Ok (Found.Gap e)) = (e ≡ behind t at) × (at ≤ e) × (e ≤ length t)
  Ends (Ok (Found.Token c e)) = (e ≡ behind t at) × (at ≤ e) × (e ≤ length t)
  Ends (Err refused) = at ≡ behind t at

  pub found_end : at < length t → (r : Result Found (ℕ × ℕ)) → r ≡ found_at at (piece (drop at t)) → Ends r
  unfolding behind
  found_end h r found = subst Ends (sym found) (go (piece (drop at t)) refl (fit_at t at h))
    where
      go : (x : Piece) → piece (drop at t) ≡ x → Fit (drop at t) x → Ends (found_at at x)
      go (gap m) q f = (ap (λ x. at + size x) (sym q), omega arith, omega (arith, f.fits.1, length-drop at t))
      go (token k m) q f = (ap (λ x. at + size x) (sym q), omega arith, omega (arith, f.fits.inside, length-drop at t))
      go (refusal r d) q f = sym (add-zero at) ∙ ap (λ x. at + size x) (sym q)

  -- as does what lies past the end
  pub past_end : length t ≤ at → at ≡ behind t at
  unfolding behind piece punctuation class_of class_in rows
  past_end h = sym (add-zero at) ∙ ap (λ s. at + size (piece s)) (sym (drop_of_length-le t h))

  -- what stands behind the piece at a place and the one after it
  pub third : (e n l : ℕ) → e ≡ behind t at → n ≡ behind t e → l ≡ behind t n → between t n l ≡ standing t (behind t (behind t at))
  unfolding standing
  third e n l p q r = cc
