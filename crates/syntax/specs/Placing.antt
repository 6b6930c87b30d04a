-- A verdict of the grammar turned into the answer, over the table's array of starts.
-- Assumes nothing.
use Rattle.std.specs.Prelude.{ℕ, cond, List, ltb, get_or}
use Rattle.grammar.specs.Answer.{Verdict, derived, refused}
use Rattle.syntax.specs.Parsing.{Parsing, Derived, Underived}

-- derived, or refused at the start that the array has for the token, or at the text's length
abbrev pub placed : ℕ → List ℕ → ℕ → Verdict → Parsing
placed count starts size derived = Derived count
placed count starts size (refused i) = Underived count (record { 0 = cond (ltb i count) (get_or starts i 0) size })
