-- What is left of a word or a line from an index on. Assumes nothing.
use Prim.Native.Nat.{ℕ, ◌+◌, ◌≤◌, ◌<◌}
use mathlib.Core.Path.{◌≡◌}
use mathlib.Core.List.{List, [], ◌∷◌}
use native.Mathlib.Omega.{arith}
use native.Mathlib.Numerals.{add-one}
use lib.ListN.{length, get_or, drop}
use lib.Seq.{drop-cons, drop-length}

-- the byte there, and what is left behind it
pub left : (word : List ℕ) (i : ℕ) → i < length word → drop i word ≡ get_or word i 0 ∷ drop (i + 1) word
left word i inside = rw (add-one, drop-cons word i 0)

-- nothing is left behind the last byte
pub ended : (word : List ℕ) (i : ℕ) → i ≤ length word → length word ≤ i → drop i word ≡ []
ended word i low high = let same : i ≡ length word = omega arith in rw (same, drop-length word)
