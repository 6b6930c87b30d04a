-- `grammar::step` meets its contract: it reads the automaton's table, whose entries the test has shown to be states.
-- Assumes nothing.
use Rattle.std.proofs.Common.{◌≡◌, ◌+◌, ◌*◌, ◌<◌, ◌∙◌, sym, ap, refl, subst, get_or, List, ℕ, arith}
use Rattle.grammar.specs.Automaton.{target}
use Rattle.grammar.specs.Table.{module_automaton, transitions}
use Rattle.grammar.specs.declared.table.TheConstants.{TABLE}
use Rattle.grammar.proofs.Passes.{entry_state}
use Rattle.grammar.proofs.Resumed.{next_inside, next_outside}
use Rattle.grammar.proofs.States.{module_passes}
use Rattle.grammar.proofs.step.Goals as goal

-- the code's table is the automaton's
stored : TABLE ≡ module_automaton.table
unfolding module_automaton transitions
stored = refl

-- so that its entries are the automaton's
entry : (s k : ℕ) → get_or TABLE (s * 58 + k) 0 ≡ target module_automaton s k
unfolding module_automaton
entry s k = ap (λ (l : List ℕ). get_or l (s * 58 + k) 0) stored

pub bounds-row : goal.bounds-row
unfolding module_automaton
bounds-row c = omega arith

pub returns-then-column-lt-TERMINALS-clause-leads : goal.returns-then-column-lt-TERMINALS-clause-leads
unfolding module_automaton
returns-then-column-lt-TERMINALS-clause-leads c =
    entry c.args.state c.args.class ∙ sym (next_inside module_automaton c.args.state c.args.class c.if-column-lt-TERMINALS.true)

pub returns-then-column-lt-TERMINALS-clause-state : goal.returns-then-column-lt-TERMINALS-clause-state
unfolding module_automaton
returns-then-column-lt-TERMINALS-clause-state c =
    subst (λ (x : ℕ). x < module_automaton.states) (sym (entry c.args.state c.args.class))
    (entry_state module_passes c.args.state c.requires c.args.class c.if-column-lt-TERMINALS.true)

pub returns-else-column-lt-TERMINALS-clause-leads : goal.returns-else-column-lt-TERMINALS-clause-leads
unfolding module_automaton
returns-else-column-lt-TERMINALS-clause-leads c =
    sym (next_outside module_automaton c.args.state c.args.class c.if-column-lt-TERMINALS.false)
