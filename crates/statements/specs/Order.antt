-- The order of refusals: their ranks.
-- Assumes nothing.
use Rattle.std.specs.Prelude.{Bool, false, cond, ◌||◌, List, [], ◌∷◌, ℕ, suc, eqb}

-- The refusals of the reader, rank by rank, the first to be given first. Where several numbers have one rank the place decides: "3 to 6
-- together: the leftmost token"; and of 41 and 42, which document 02 puts for 11, "both hold 11's place in the order together, the earlier
-- use first".
abbrev pub ranks : List (List ℕ)
ranks =
    (1 ∷ [])
    ∷ (2 ∷ [])
    ∷ (3 ∷ 4 ∷ 5 ∷ 6 ∷ [])
    ∷ (7 ∷ [])
    ∷ (8 ∷ [])
    ∷ (9 ∷ [])
    ∷ (10 ∷ [])
    ∷ (41 ∷ 42 ∷ [])
    ∷ (12 ∷ [])
    ∷ (13 ∷ [])
    ∷ (14 ∷ [])
    ∷ (15 ∷ [])
    ∷ (16 ∷ [])
    ∷ (17 ∷ [])
    ∷ (18 ∷ [])
    ∷ (19 ∷ [])
    ∷ (20 ∷ [])
    ∷ (21 ∷ [])
    ∷ (22 ∷ [])
    ∷ []

-- the number is one of these
unfoldable pub is_among : ℕ → List ℕ → Bool
is_among n [] = false
is_among n (m ∷ ms) = eqb n m || is_among n ms

-- how many of these ranks come before the one that has the number
unfoldable pub ranks_before : ℕ → List (List ℕ) → ℕ
ranks_before n [] = 0
ranks_before n (r ∷ rs) = cond (is_among n r) 0 (suc (ranks_before n rs))

-- the rank of a number, the first being 0
unfoldable pub rank : ℕ → ℕ
rank n = ranks_before n ranks
