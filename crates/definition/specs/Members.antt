-- What stands in a field's span: the names and the numbers of a list, by the indices of their tokens.
-- Assumes nothing.
use Rattle.std.specs.Prelude.{Bool, List, ℕ, eqb}
use Rattle.index.specs.First.{hits}
use Rattle.terminal.specs.Terminal.{number}
use Rattle.definition.specs.Landmark.{class_at, is_lower}
use Rattle.definition.specs.declared.Span.{Span}

-- token i is a *lower*, as each name of an INDEX, AUGMENTS, OBJECTS or SEQUENCE list is
abbrev pub is_name : List ℕ → ℕ → Bool
is_name cs i = is_lower (class_at cs i)

-- an OID's own numbers, in text order: those in brackets after a label too, the label not
unfoldable pub oid_numbers : List ℕ → Span → List ℕ
oid_numbers cs s = hits (λ (i : ℕ). eqb (class_at cs i) number) s.from s.to
