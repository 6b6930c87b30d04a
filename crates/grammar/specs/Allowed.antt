-- Which class sequences some derived sequence begins with, by the automaton's verdict. That it is so is a law of the crate (`proofs/Begun.antt`).
-- Assumes nothing.
use Rattle.std.specs.Prelude.{Bool, true, List, ℕ, leb, length}
use Rattle.grammar.specs.Answer.{Verdict, derived, refused}
use Rattle.grammar.specs.Automaton.{run}
use Rattle.grammar.specs.Table.{module_automaton}

-- of n classes with this verdict none is at fault: they are derived, or only their end is
abbrev pub unspoiled : ℕ → Verdict → Bool
unspoiled n derived = true
unspoiled n (refused i) = leb n i

-- the automaton allows the sequence as the beginning of one
abbrev pub allowed : List ℕ → Bool
allowed ts = unspoiled (length ts) (run module_automaton ts)
