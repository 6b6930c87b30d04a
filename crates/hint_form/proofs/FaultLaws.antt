-- A hint for octets has no fault just where it is pieces. Assumes nothing.
use Prim.Native.Nat.{ℕ, ◌≤◌, ◌<◌}
use mathlib.Core.Path.{◌≡◌, refl, sym, ◌∙◌}
use mathlib.Core.Bool.{false}
use mathlib.Core.List.{List}
use native.Mathlib.Omega.{arith}
use lib.ListN.{length}
use borrow.Author.Tests.{lt-leb, le-leb}
use Rattle.character.specs.Cut.{cut, stuck_at}
use Rattle.std.proofs.Common.{Option, Some, None, ◌⊎◌, inl, inr}
use Rattle.hint_form.specs.Fault.{search_fault, pieces_fault, is_sound}
use Rattle.hint_form.specs.Hint.{piece_size, read_hint, is_pieces}
use Rattle.hint_form.proofs.HintLaws.{nowhere, pieces_whole}

-- bytes have no fault where each is in a piece
pub sound_pieces : (hint : List ℕ) → is_sound (pieces_fault hint) ≡ nowhere (stuck_at (cut (piece_size hint) (length hint)))
unfolding pieces_fault
sound_pieces hint = go (stuck_at (cut (piece_size hint) (length hint)))
  where
    go : (s : Option ℕ) → is_sound (search_fault hint s) ≡ nowhere s
    go (Some i) = refl
    go None = refl

-- a hint of 1 to 255 bytes
pub sound_short : (hint : List ℕ) → 1 ≤ length hint → length hint ≤ 255
    → is_sound (pieces_fault hint) ≡ is_pieces (read_hint hint)
sound_short hint low high = sound_pieces hint ∙ sym (pieces_whole hint low high)

-- a hint that is empty or too long is none
pub none_empty : (hint : List ℕ) → length hint ≡ 0 → is_pieces (read_hint hint) ≡ false
unfolding read_hint is_pieces
none_empty hint empty = simp empty

pub none_long : (hint : List ℕ) → 255 < length hint → is_pieces (read_hint hint) ≡ false
unfolding read_hint is_pieces
none_long hint long = simp (le-leb 1 (length hint) (omega arith), lt-leb (length hint) 255 long)

pub none_outside : (hint : List ℕ) → (length hint ≡ 0) ⊎ (255 < length hint) → is_pieces (read_hint hint) ≡ false
none_outside hint (inl empty) = none_empty hint empty
none_outside hint (inr long) = none_long hint long
