-- All statements hold.
-- Assumes nothing.
use mathlib.Core.Path.{ap, sym, ◌∙◌}
use mathlib.Core.List.{List}
use Prim.Native.Nat.{ℕ}
use Rattle.token.specs.Cut.{meanings_in}
use Rattle.row_status.specs.RowStatus.{Outcome}
use Rattle.digit.proofs.Numeral.{digits_back, zero_digits, no_leading_zero}
use Rattle.reader.specs.Buffers.{answer_to, examined_to}
use Rattle.grammar.specs.Automaton.{run}
use Rattle.grammar.specs.Grammar.{smi_module}
use Rattle.grammar.specs.Rule.{yield}
use Rattle.grammar.specs.Table.{module_automaton}
use Rattle.grammar.proofs.Begun.{begun}
use Rattle.grammar.proofs.Theorem.{grammar_theorem}
use Rattle.statements.specs.Statements.{Statements}
use Rattle.statements.proofs.Breaches.{Ordered}
use Rattle.statements.proofs.Rising.{rules_in_order, rules_placed}
use Rattle.statements.proofs.Demands.{first_demand, second_demand}
use Rattle.statements.proofs.Third.{third_demand}
use Rattle.module_tree.proofs.OfText.{of_text}
use Rattle.statements.proofs.Printed.{two_numbers, no_answer_changed}
use Rattle.statements.proofs.Gone.{eleven_gone}
use Rattle.statements.proofs.RangesApart.{ranges_in_any_order}
use Rattle.statements.proofs.Alike.{quotes_alike, read_once}
use Rattle.statements.proofs.Printing.{prints, printed_alike, octets_bound}
use Rattle.statements.proofs.Rows.{state_kept, same_answer}
use Rattle.statements.proofs.Exporting.{exported}
use Rattle.statements.proofs.Searching.{searches}
use Rattle.statements.proofs.WholeCase.{whole_case}
use Rattle.statements.proofs.Examples.{examples}

-- the rules of any text are in order
order : (text : List ℕ) → Ordered (meanings_in text)
order text = rules_in_order (meanings_in text)

pub statements : Statements
statements = record {
  first_demand = λ text. first_demand text (order text) (rules_placed (meanings_in text));
  second_demand = λ text. second_demand text (order text) (rules_placed (meanings_in text));
  quotes = quotes_alike answer_to;
  third_demand = λ text. third_demand text (order text);
  what_may_stand = λ classes. begun (yield smi_module) classes (run module_automaton classes) (grammar_theorem classes);
  of_derivation = of_text;
  two_numbers = two_numbers;
  no_answer_changed = no_answer_changed;
  eleven_gone = eleven_gone;
  ranges = ranges_in_any_order;
  read_settled = read_once answer_to;
  examine_settled = read_once examined_to;
  octets = λ hint value answer before after a. prints _ _ before answer after a;
  integer = λ hint value answer before after a. prints _ _ before answer after a;
  four_bytes = octets_bound;
  digits_back = digits_back;
  zero_digits = zero_digits;
  no_leading_zero = no_leading_zero;
  octets_settled = λ hint value x y before a b p q. printed_alike _ _ before x y a b p q;
  integer_settled = λ hint value x y before a b p q. printed_alike _ _ before x y a b p q;
  row_answer = λ state value complete willing answer set.
      (ap (λ (o : Outcome). o.number) set, ap (λ (o : Outcome). o.next) set, state_kept state answer);
  row_settled = λ state value complete willing x y p q. same_answer state x y (p ∙ sym q);
  exported = exported;
  searches = searches;
  whole_case = whole_case;
  examples = examples;
}
