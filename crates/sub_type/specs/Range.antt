-- The ranges of a restriction, those of sizes alike, each by the token that it starts with; and what breaks refusal 17.
-- `cs` are the classes of a module's tokens, `vs` their values.
-- Assumes nothing.
use Rattle.std.specs.Prelude.{Bool, not, ◌&&◌, ◌||◌, List, ℕ, ◌+◌, ◌-◌, eqb, ℤ}
use Rattle.terminal.specs.Terminal.{number, negative, dots}
use Rattle.definition.specs.Landmark.{class_at}
use Rattle.index.specs.Choice.{when◌then◌else◌}
use Rattle.sub_type.specs.Number.{number_at, is_outside}
use Rattle.sub_type.specs.declared.Limits.{Limits}
use Rattle.sub_type.specs.declared.Limits.TheVariants.{Nothing, Integer, Unsigned, Sizes}

-- a token of this class is a number
abbrev pub is_number : ℕ → Bool
is_number class = eqb class number || eqb class negative

-- a range starts at token i: a number, and not the one behind `..`
unfoldable pub starts_range : List ℕ → ℕ → Bool
starts_range cs i = is_number (class_at cs i) && not (eqb (class_at cs (i - 1)) dots)

-- the range that starts at token i is a pair: `..` follows its low
abbrev pub is_pair : List ℕ → ℕ → Bool
is_pair cs i = eqb (class_at cs (i + 1)) dots

-- the token of its high: the number behind `..`, or its only number
abbrev pub high_token : List ℕ → ℕ → ℕ
high_token cs i = when is_pair cs i then i + 2 else i

-- its low, and its high
abbrev pub low : List ℕ → List ℕ → ℕ → ℤ
low cs vs i = number_at cs vs i

abbrev pub high : List ℕ → List ℕ → ℕ → ℤ
high cs vs i = number_at cs vs (high_token cs i)

-- one of its bounds is outside the limits
unfoldable pub exceeds : List ℕ → List ℕ → Limits → ℕ → Bool
exceeds cs vs limits i = is_outside limits (low cs vs i) || is_outside limits (high cs vs i)

-- how a range breaks limits: 1 where the class takes no such restriction, 2 where it is outside
abbrev pub limit_kind : Limits → ℕ
limit_kind Nothing = 1
limit_kind Integer = 2
limit_kind Unsigned = 2
limit_kind Sizes = 2

-- 17: that number, where the range that starts at token i exceeds the limits
unfoldable pub limit_clause : List ℕ → List ℕ → Limits → ℕ → ℕ
limit_clause cs vs limits i = when starts_range cs i && exceeds cs vs limits i then limit_kind limits else 0
