-- A row of bytes cut from the left into items: a hint into pieces, octets into characters.
-- Assumes nothing.
use Rattle.std.specs.Prelude.{ℕ, zero, suc, ◌+◌, true, false, List, [], ◌∷◌, leb, Option, Some, None}

-- the places at which the items start, or the first place at which none does
pub data Cut : Type 0 where
  whole : List ℕ → Cut
  stuck : ℕ → Cut

-- one more item, before those of a cut
unfoldable pub before : ℕ → Cut → Cut
before place (whole places) = whole (place ∷ places)
before place (stuck i) = stuck i

-- the cut from place i up to the end, in a number of steps at most; `size i` is how many bytes the item at i has, 0 where
-- none starts
unfoldable pub cut_within : ℕ → (ℕ → ℕ) → ℕ → ℕ → Cut
cut_within zero size end i = whole []
cut_within (suc steps) size end i =
    elim (leb end i) [
      | true ↦ whole []
      | false ↦ elim (size i) [ zero ↦ stuck i | suc n ↦ before i (cut_within steps size end (i + suc n)) ]
    ]

-- the cut of all bytes up to the end. An item has at least one byte, so as many steps as there are bytes suffice
unfoldable pub cut : (ℕ → ℕ) → ℕ → Cut
cut size end = cut_within end size end 0

-- where a cut is stuck, if it is
unfoldable pub stuck_at : Cut → Option ℕ
stuck_at (whole places) = None
stuck_at (stuck i) = Some i
