-- The numbers of an OID's own parts: document 01, "Grammar" and "Built-in symbols".
-- Assumes nothing.
use Rattle.std.specs.Prelude.{Bool, ◌&&◌, List, map, ℕ, ltb, eqb, length, get_or}
use Rattle.index.specs.First.{hits}
use Rattle.terminal.specs.Terminal.{number}
use Rattle.definition.specs.Landmark.{class_at}
use Rattle.definition.specs.declared.Span.{Span}

-- token i is a number
abbrev pub is_number : List ℕ → ℕ → Bool
is_number classes i = ltb i (length classes) && eqb (class_at classes i) number

-- the numbers in a span, in text order, those in brackets after a label too; labels don't count
unfoldable pub number_tokens : List ℕ → Span → List ℕ
number_tokens classes span = hits (is_number classes) span.from span.to

-- their values
unfoldable pub parts_in : List ℕ → List ℕ → Span → List ℕ
parts_in classes values span = map (λ (i : ℕ). get_or values i 0) (number_tokens classes span)
