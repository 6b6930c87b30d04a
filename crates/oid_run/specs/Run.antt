-- Runs of numbers in a buffer, as OIDs are held, and how two of them stand to each other. That two are the same, number by
-- number, is `same` of the crate `lexicon`.
-- Assumes nothing.
use Rattle.std.specs.Prelude.{Bool, List, [], ◌∷◌, ◌++◌, ℕ, length, get_or, take, drop}
use Rattle.lexicon.specs.Word.{same}

-- the run of so many numbers from an index on
abbrev pub run : List ℕ → ℕ → ℕ → List ℕ
run numbers from count = take count (drop from numbers)

-- the second is the first followed by one number, the one that it has there
unfoldable pub is_below : List ℕ → List ℕ → Bool
is_below a b = same (a ++ (get_or b (length a) 0 ∷ [])) b
