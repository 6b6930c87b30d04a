-- The theorem on the grammar, over every class sequence of any length: the automaton derives it exactly where a derivation
-- exists; where it refuses at a token, some derived sequence begins with the tokens before and none with them and it; where
-- it refuses at the end, some derived sequence begins with all of them and none is them; and no sequence has two derivations.
-- Assumes nothing.
use mathlib.Core.Path.{◌≡◌, refl}
use mathlib.Core.List.{List, []}
use Prim.Native.Nat.{ℕ}
use Rattle.grammar.specs.Answer.{refused, Answers}
use Rattle.grammar.specs.Automaton.{run, run_from}
use Rattle.grammar.specs.Grammar.{smi_module}
use Rattle.grammar.specs.Table.{module_automaton}
use Rattle.grammar.proofs.Run.{run_answers}
use Rattle.grammar.proofs.States.{module_passes}

pub grammar_theorem : (ts : List ℕ) → Answers smi_module ts (run module_automaton ts)
grammar_theorem ts = run_answers module_passes ts

-- no tokens: the run refuses at the end, which is token 0
pub no_tokens : run module_automaton [] ≡ refused 0
unfolding run_from module_automaton
no_tokens = refl
