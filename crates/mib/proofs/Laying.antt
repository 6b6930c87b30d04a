-- What laying words over a slice comes to.
-- Assumes nothing.
use Prim.Native.Nat.{ℕ, suc, min}
use Rattle.std.proofs.Math.Nat.{zero-min, min-zero, suc-min-suc}
use mathlib.Core.Path.{◌≡◌, ap}
use mathlib.Core.List.{List, [], ◌∷◌, ◌++◌}
use lib.ListN.{length, take, drop}
use Rattle.mib.specs.Raw.{laid}

-- as many words as both are long, and then what the slice has beyond them
pub laid_part : (words slice : List ℕ)
    → take (min (length words) (length slice)) words ++ drop (min (length words) (length slice)) slice ≡ laid words slice
unfolding laid
laid_part [] slice = rw (zero-min (length slice))
laid_part (word ∷ words) [] = rw (min-zero (suc (length words)))
laid_part (word ∷ words) (old ∷ slice) = rw (suc-min-suc (length words) (length slice)) (ap (λ (l : List ℕ). word ∷ l) (laid_part words slice))
