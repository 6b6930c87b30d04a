-- The ranges of a restriction against each other: what breaks refusal 16, as request 2 of document 02 has it. A range is meant by the token
-- that it starts with; the restriction starts at token `from`. `cs` are the classes of a module's tokens, `vs` their values.
-- Assumes nothing.
use Rattle.std.specs.Prelude.{Bool, not, ◌&&◌, ◌||◌, List, ℕ}
use Rattle.std.specs.Int.Signed.{lt_z}
use Rattle.index.specs.Choice.{when◌then◌else◌}
use Rattle.index.specs.First.{first, any}
use Rattle.sub_type.specs.Range.{starts_range, is_pair, low, high}

-- the pair is wrong: low is not below high
unfoldable pub is_backward : List ℕ → List ℕ → ℕ → Bool
is_backward cs vs i = is_pair cs i && not (lt_z (low cs vs i) (high cs vs i))

-- range i lies below range j
unfoldable pub is_below : List ℕ → List ℕ → ℕ → ℕ → Bool
is_below cs vs i j = lt_z (high cs vs i) (low cs vs j)

-- they have a number in common: neither low is above either high
unfoldable pub shares : List ℕ → List ℕ → ℕ → ℕ → Bool
shares cs vs i j = not (is_below cs vs i i) && not (is_below cs vs j j) && not (is_below cs vs i j) && not (is_below cs vs j i)

-- at token j a range starts that shares a number with range i
abbrev pub is_sharing : List ℕ → List ℕ → ℕ → ℕ → Bool
is_sharing cs vs i j = starts_range cs j && shares cs vs j i

-- at token i a range starts that is misplaced: its pair is wrong, or some earlier range has a number in common with it
unfoldable pub is_misplaced : List ℕ → List ℕ → ℕ → ℕ → Bool
is_misplaced cs vs from i = starts_range cs i && (is_backward cs vs i || any (is_sharing cs vs i) from i)

-- the first range that shares a number with range i; range i itself where none before it does
abbrev pub first_sharing : List ℕ → List ℕ → ℕ → ℕ → ℕ
first_sharing cs vs from i = first (is_sharing cs vs i) from i

-- how a range is misplaced: 1 where its pair is wrong, else 2
abbrev pub misplaced_clause : List ℕ → List ℕ → ℕ → ℕ
misplaced_clause cs vs i = when is_backward cs vs i then 1 else 2

-- what it stands against: nothing else where its pair is wrong, else the first range that shares a number with it
abbrev pub misplaced_other : List ℕ → List ℕ → ℕ → ℕ → ℕ
misplaced_other cs vs from i = when is_backward cs vs i then i else first_sharing cs vs from i
