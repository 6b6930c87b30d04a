-- `grammar::recognise` meets its contract: after each token its state is the run's, and the run is right by the theorem.
-- Assumes nothing.
use Rattle.std.proofs.Common.{◌≡◌, ◌∙◌, sym, ap, subst, length, List, ℕ, arith}
use lib.Dec.{lit<}
use Rattle.grammar.specs.Answer.{Verdict, refused, Answers}
use Rattle.grammar.specs.Automaton.{run}
use Rattle.grammar.specs.Grammar.{smi_module}
use Rattle.grammar.specs.Table.{module_automaton, transitions}
use Rattle.grammar.proofs.Resumed.{resumed_start, resumed_dead, resumed_token, resumed_whole, resumed_short}
use Rattle.grammar.proofs.Theorem.{grammar_theorem}
use Rattle.grammar.proofs.recognise.Goals as goal

-- a verdict that is the run's is right
right : (ts : List ℕ) (v : Verdict) → run module_automaton ts ≡ v → Answers smi_module ts v
right ts v e = subst (Answers smi_module ts) e (grammar_theorem ts)

pub loop-i-init : goal.loop-i-init
unfolding module_automaton transitions
loop-i-init c = record { state = lit< tt; run = resumed_start module_automaton c.args.classes.now }

pub returns-then-state-eq-DEAD-clause-ran : goal.returns-then-state-eq-DEAD-clause-ran
returns-then-state-eq-DEAD-clause-ran c =
    sym (resumed_dead module_automaton c.args.classes.now _ _ _ c.loop-i.invariant.run c.loop-i-test.true (sym c.step-state.ensures.leads) c.if-state-eq-DEAD.true)

pub returns-then-state-eq-DEAD-clause-right : goal.returns-then-state-eq-DEAD-clause-right
returns-then-state-eq-DEAD-clause-right c =
    right c.args.classes.now _
    (resumed_dead module_automaton c.args.classes.now _ _ _ c.loop-i.invariant.run c.loop-i-test.true (sym c.step-state.ensures.leads) c.if-state-eq-DEAD.true)

pub loop-i-preserved : goal.loop-i-preserved
loop-i-preserved c = record {
  state = c.step-state.ensures.state;
  run = resumed_token module_automaton c.args.classes.now _ _ _ c.loop-i.invariant.run c.loop-i-test.true (sym c.step-state.ensures.leads) c.if-state-eq-DEAD.false;
}

pub returns-then-state-eq-ACCEPTING-clause-ran : goal.returns-then-state-eq-ACCEPTING-clause-ran
unfolding module_automaton
returns-then-state-eq-ACCEPTING-clause-ran c =
    sym (resumed_whole module_automaton c.args.classes.now _ _ c.loop-i.invariant.run c.loop-i-test.false c.if-state-eq-ACCEPTING.true)

pub returns-then-state-eq-ACCEPTING-clause-right : goal.returns-then-state-eq-ACCEPTING-clause-right
unfolding module_automaton
returns-then-state-eq-ACCEPTING-clause-right c =
    right c.args.classes.now _
    (resumed_whole module_automaton c.args.classes.now _ _ c.loop-i.invariant.run c.loop-i-test.false c.if-state-eq-ACCEPTING.true)

pub returns-else-state-eq-ACCEPTING-clause-ran : goal.returns-else-state-eq-ACCEPTING-clause-ran
unfolding module_automaton
returns-else-state-eq-ACCEPTING-clause-ran c =
    let end : c.loop-i.i ≡ length c.args.classes.now = omega arith in
    ap refused (sym end)
    ∙ sym (resumed_short module_automaton c.args.classes.now _ _ c.loop-i.invariant.run c.loop-i-test.false c.if-state-eq-ACCEPTING.false)

pub returns-else-state-eq-ACCEPTING-clause-right : goal.returns-else-state-eq-ACCEPTING-clause-right
unfolding module_automaton
returns-else-state-eq-ACCEPTING-clause-right c =
    let end : c.loop-i.i ≡ length c.args.classes.now = omega arith in
    right c.args.classes.now _
    (resumed_short module_automaton c.args.classes.now _ _ c.loop-i.invariant.run c.loop-i-test.false c.if-state-eq-ACCEPTING.false ∙ ap refused end)
