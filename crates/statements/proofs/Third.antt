-- The third demand holds of the reader: what the grammar says is its answer, since each rule that is asked after it has a number of
-- its own.
-- Assumes nothing.
use mathlib.Core.Path.{◌≡◌, refl, sym, ap, subst, ◌∙◌}
use mathlib.Core.List.{List}
use Prim.Native.Nat.{ℕ}
use native.Mathlib.Omega.{arith}
use lib.ListN.{length}
use Rattle.rule.specs.Rule.{judge, Judgement}
use Rattle.rule.proofs.Judged.{judged_broken}
use Rattle.token.specs.Cut.{cut, meanings_in}
use Rattle.grammar.specs.Answer.{Verdict, derived}
use Rattle.grammar.specs.Answer.{refused as refused-at}
use Rattle.syntax.specs.Parsing.{ThirdDemand as ParsingDemand, answer_to as parsing-of}
use Rattle.syntax.specs.Parsing.{Parsing}
use Rattle.syntax.proofs.Parsed.{third_demand as parsing-demand}
use Rattle.reader.specs.Reading.{rules, judged, outcome}
use Rattle.reader.specs.Buffers.{number_of, answer_to, Reads, Answer}
use Rattle.statements.specs.Order.{rank}
use Rattle.statements.specs.Breach.{WithinLimits, Cuts}
use Rattle.statements.specs.Statements.{ThirdDemand}
use Rattle.statements.proofs.First.{first_found}
use Rattle.statements.proofs.Breaches.{Ordered, after_grammar}
use Rattle.std.specs.Prelude.{Ok, Err}

module _ (text : List ℕ) (order : Ordered (meanings_in text)) where
  -- an answer to the rules is not refusal 7
  not_seven : (j : Judgement) → judge (rules (meanings_in text)) ≡ j → number_of (answer_to (judged (cut text).tokens j)) ≡ 7 → ⊥
  not_seven (Ok tt) is seven = omega (arith, seven)
  not_seven (Err f) is seven =
      let x = first_found (judged_broken (rules (meanings_in text)) f is) in
      omega (arith, ap rank seven, (after_grammar (meanings_in text) order x).0)

  demand_of : (v : Verdict) → ParsingDemand text (parsing-of (cut text).tokens (length text) v)
      → ThirdDemand text (answer_to (outcome text (parsing-of (cut text).tokens (length text) v)))
  demand_of derived d =
      let derives = d.otherwise.0 refl in
      let never = not_seven (judge (rules (meanings_in text))) refl in
      record {
        exactly = (λ seven. absurd (never seven), λ none. absurd (none derives));
        at_fault = λ seven. absurd (never seven);
        one_derivation = d.one_reading;
      }
  demand_of (refused-at i) d = record {
    exactly = (λ seven. d.exactly.0 refl, λ none. refl);
    at_fault = λ seven. d.at_fault refl;
    one_derivation = d.one_reading;
  }

  pub third_demand : (answer : Answer) (records records' numbers numbers' : List ℕ) → Reads text answer records records' numbers numbers'
      → WithinLimits text (length records) (length numbers) → Cuts text → ThirdDemand text answer
  third_demand answer records records' numbers numbers' reads limits cuts =
      let i = reads.read limits.record_room limits.number_room limits.short_text in
      let v = i.1.judged cuts in
      let is : answer ≡ answer_to (outcome text (parsing-of (cut text).tokens (length text) v.0)) =
      i.2.answered ∙ ap (λ (p : Parsing). answer_to (outcome text p)) v.2 in
      subst (ThirdDemand text) (sym is) (demand_of v.0 (subst (ParsingDemand text) v.2 (parsing-demand text i.0 i.1 cuts)))
