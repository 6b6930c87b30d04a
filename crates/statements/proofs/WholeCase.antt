-- The whole case of "The shelf card" is accepted, with its count, its records and its sub-identifiers.
-- Assumes nothing.
use mathlib.Core.Path.{◌≡◌, ap, ◌∙◌}
use mathlib.Core.List.{◌++◌, map}
use Prim.Native.Nat.{◌≤◌}
use native.Mathlib.Omega.{arith}
use lib.ListN.{length}
use Rattle.rule.specs.Rule.{judge}
use Rattle.token.specs.Token.{class_of_token, meanings}
use Rattle.token.specs.Cut.{Cut, cut}
use Rattle.token.specs.Table.{longest_text}
use Rattle.grammar.specs.Answer.{derived}
use Rattle.grammar.specs.Automaton.{run}
use Rattle.grammar.specs.Table.{module_automaton}
use Rattle.grammar.proofs.Derivation.{one_token_verdict}
use Rattle.syntax.specs.Parsing.{Parses, answer_to as parsing-of}
use Rattle.syntax.specs.Parsing.{Parsing}
use Rattle.syntax.specs.Parsing.{Derived}
use Rattle.syntax.proofs.Parsed.{run_judges}
use Rattle.lexicon.specs.Word.{bytes}
use Rattle.reader.specs.Reading.{Outcome, accepted, rules, judged, outcome}
use Rattle.reader.specs.Buffers.{record_words, number_words, answer_to, records_in, numbers_in, filled}
use Rattle.statements.specs.Card.{card_text, record_of_t, record_of_a, card_numbers}
use Rattle.statements.specs.Statements.{WholeCase}
use Rattle.statements.proofs.CardTokens.{card_tokens, card_cut}
use Rattle.statements.proofs.Card.{card_verdict, card_kept, card_read}

-- the text is not too long
short : length card_text ≤ longest_text
unfolding card_text bytes
short = omega arith

-- it is derived
parsed : (p : Parsing) → Parses card_text p → p ≡ Derived (length (cut card_text).tokens)
parsed p right =
    let i = right.judged (ap (λ (c : Cut). c.ending) card_cut) in
    let same = one_token_verdict class_of_token (cut card_text).tokens i.0 _ i.1 (run_judges (cut card_text).tokens) in
    let is : run module_automaton (map class_of_token (cut card_text).tokens) ≡ derived =
    ap (λ (c : Cut). run module_automaton (map class_of_token c.tokens)) card_cut ∙ card_verdict in
    i.2 ∙ ap (parsing-of (cut card_text).tokens (length card_text)) (same ∙ is)

-- and all rules are kept
found : outcome card_text (Derived (length (cut card_text).tokens)) ≡ accepted 2 (record_of_t ++ record_of_a) card_numbers
found =
    ap (λ (c : Cut). judged c.tokens (judge (rules (meanings c.tokens)))) card_cut
    ∙ ap (judged card_tokens) card_kept
    ∙ card_read

pub whole_case : WholeCase
whole_case answer records records' numbers numbers' reads room space =
    let i = reads.read room space short in
    let is = ap (outcome card_text) (parsed i.0 i.1) ∙ found in (
      i.2.answered ∙ ap answer_to is,
      i.2.records_left ∙ ap (λ (o : Outcome). filled record_words (records_in o) records) is,
      i.2.numbers_left ∙ ap (λ (o : Outcome). filled number_words (numbers_in o) numbers) is,
    )
