-- The states of the grammar's automaton have rules, and it passes the test with them: antt computes it.
-- Assumes nothing.
use mathlib.Core.Path.{refl}
use mathlib.Core.Bool.{true, false}
use mathlib.Core.List.{List, [], ◌∷◌, ◌++◌}
use Prim.Native.Nat.{ℕ, suc}
use native.Mathlib.Decide.{ℕ_discrete}
use lib.Dec.{eqb}
use lib.ListN.{length, get_or}
use Rattle.grammar.specs.Rule.{Rule, never}
use Rattle.grammar.specs.Grammar.{smi_module}
use Rattle.grammar.specs.Table.{transitions, module_automaton}
use Rattle.grammar.proofs.Derivative.{simplified, derivative}
use Rattle.grammar.proofs.Passes.{Passes}

-- the rules, and the derivatives of q by the classes that lead to the states next after those that have a rule
abbrev with_derivatives : List Rule → Rule → List (ℕ × ℕ) → List Rule
with_derivatives rules q [] = rules
with_derivatives rules q (p ∷ more) =
    elim (eqb p.1 (length rules)) [
      | true ↦ with_derivatives (rules ++ derivative p.0 q ∷ []) q more
      | false ↦ with_derivatives rules q more
    ]

-- the rules of all states: each state has its number from the first transition that leads to it
abbrev grown : List Rule → ℕ → List (List (ℕ × ℕ)) → List Rule
grown rules s [] = rules
grown rules s (pairs ∷ more) = grown (with_derivatives rules (get_or rules s never) pairs) (suc s) more

-- ∅ for the dead state, the grammar for the start, and a derivative of an earlier state's rule for each other
pub rules : List Rule
unfolding smi_module transitions
rules = grown (never ∷ simplified smi_module ∷ []) 0 transitions

pub module_passes : Passes module_automaton rules smi_module
unfolding rules module_automaton ℕ_discrete
module_passes =
    record {
      all_states = refl;
      all_entries = refl;
      dead = refl;
      alive = tt;
      repeats = tt;
      classes = tt;
      ends = tt;
      targets = tt;
      entries = tt;
      start_state = tt;
      start_alive = tt;
      start_rule = refl;
    }
