use Rattle.std.proofs.Common.{◌<◌}
use Rattle.grammar.specs.Table.{module_automaton}
use Rattle.grammar.proofs.Resumed.{Resumed}
use Rattle.grammar.proofs.recognise.Given as goal

abbrev pub invariant-loop-i : goal.invariant-loop-i
invariant-loop-i l = record {
  state : l.state < module_automaton.states;
  run : Resumed module_automaton l.classes l.state l.i;
}
