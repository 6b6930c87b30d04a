-- The examples P1 to P8, as one statement.
-- Assumes nothing.
use mathlib.Core.Path.{◌≡◌, ap, ◌∙◌}
use mathlib.Core.List.{List, []}
use Prim.Native.Nat.{ℕ, ◌≤◌}
use native.Mathlib.Omega.{arith}
use lib.ListN.{length}
use Rattle.lexicon.specs.Word.{bytes}
use Rattle.token.proofs.Examples.{examples as of_tokens}
use Rattle.token.specs.Cut.{Cut, refused, cut}
use Rattle.token.specs.Table.{longest_text}
use Rattle.syntax.specs.Parsing.{Parses}
use Rattle.syntax.specs.Parsing.{Parsing}
use Rattle.syntax.proofs.Parsed.{empty_text}
use Rattle.hint.proofs.Examples.{examples as of-hints}
use Rattle.hint.proofs.Examples.{bytes as hint-bytes}
use Rattle.reader.specs.Reading.{outcome}
use Rattle.reader.specs.Buffers.{answer_to, refused_by}
use Rattle.statements.specs.Statements.{RefusedBy, Examples}

-- by how the text is parsed, if it is short enough
parsed_so : (text : List ℕ) (number place : ℕ) → length text ≤ longest_text
    → ((p : Parsing) → Parses text p → answer_to (outcome text p) ≡ refused_by number place) → RefusedBy text number place
parsed_so text number place few so answer records records' numbers numbers' reads room space =
    let i = reads.read room space few in
    i.2.answered ∙ so i.0 i.1

-- a text that does not cut into tokens
uncut_so : (text : List ℕ) (number place : ℕ) → length text ≤ longest_text → (cut text).ending ≡ refused number place → RefusedBy text number place
uncut_so text number place few e =
    parsed_so text number place few (λ p parses. ap (λ (x : Parsing). answer_to (outcome text x)) (parses.uncut number place e))

pub examples : Examples
unfolding bytes hint-bytes
examples = record {
  P1 = of_tokens.P1;
  P2 = (of_tokens.P2, uncut_so (bytes "-----") 3 4 (omega arith) (ap (λ (c : Cut). c.ending) of_tokens.P2));
  P3 = of_tokens.P3;
  P4 = (of_tokens.P4, uncut_so (bytes "4294967296") 6 0 (omega arith) (ap (λ (c : Cut). c.ending) of_tokens.P4));
  P5 = parsed_so [] 7 0 (omega arith) (λ p parses. ap (λ (x : Parsing). answer_to (outcome [] x)) (empty_text p parses));
  P6 = of-hints.P6;
  P7 = of-hints.P7;
  P8 = (of-hints.P8-text, of-hints.P8-ascii);
}
