-- Each answer is right: a refusal is the first breach, and an accepted text has none.
-- Assumes nothing.
use mathlib.Core.Path.{◌≡◌, refl, sym, ap, subst, ◌∙◌}
use mathlib.Core.Logic.{◌↔◌}
use mathlib.Core.List.{List}
use Prim.Native.Nat.{ℕ, ◌<◌}
use native.Mathlib.Omega.{arith}
use lib.ListN.{length}
use Rattle.rule.specs.Rule.{judge, Judgement}
use Rattle.rule.proofs.Judged.{judged_kept, judged_broken}
use Rattle.token.specs.Cut.{Ending, whole, refused, cut, meanings_in}
use Rattle.grammar.specs.Answer.{Verdict, derived}
use Rattle.grammar.specs.Answer.{refused as refused-at}
use Rattle.syntax.specs.Parsing.{Parses, ThirdDemand as ParsingDemand, answer_to as parsing-of}
use Rattle.syntax.specs.Parsing.{Parsing}
use Rattle.syntax.proofs.Parsed.{third_demand}
use Rattle.reader.specs.Reading.{rules, judged, outcome}
use Rattle.reader.specs.Buffers.{number_of, answer_to, Reads, Answer, refused_by}
use Rattle.statements.proofs.Ordered.{Placed}
use Rattle.statements.specs.Breach.{WithinLimits, Cuts, InBreach, FirstBreach}
use Rattle.statements.proofs.Limits.{Lent, short, long, within, lent}
use Rattle.statements.proofs.Breaches.{Ordered, Least, least_first, one_first, numbered, first_short, first_long, past_limits, first_uncut, first_underived, none_broken, first_broken}
use Rattle.std.specs.Prelude.{Ok, Err}

-- what an answer says of breaches, where the buffers lent have so many words
abbrev pub Right : List ℕ → ℕ → ℕ → Answer → Type 0
Right text a b (Ok count) = (m q : ℕ) → InBreach text a b m q → ⊥
Right text a b (Err r) = Least text a b r.number r.place.0

-- of a text whose rules are in order, with places among the tokens
module _ (text : List ℕ) (order : Ordered (meanings_in text)) (placed : Placed (length (meanings_in text)) (rules (meanings_in text))) where
  -- within the limits, by how the text is parsed
  module _ (a b : ℕ) (limits : WithinLimits text a b) where
    abbrev RightOutcome : Parsing → Type 0
    RightOutcome p = Right text a b (answer_to (outcome text p))

    by_verdict : Cuts text → (v : Verdict) → ParsingDemand text (parsing-of (cut text).tokens (length text) v)
        → RightOutcome (parsing-of (cut text).tokens (length text) v)
    by_verdict cuts derived d = go (judge (rules (meanings_in text))) refl
      where
        go : (j : Judgement) → judge (rules (meanings_in text)) ≡ j → Right text a b (answer_to (judged (cut text).tokens j))
        go (Ok _) is = none_broken text a b order limits cuts (d.otherwise.0 refl) (judged_kept (rules (meanings_in text)) is)
        go (Err f) is =
            first_broken text a b order limits cuts (d.otherwise.0 refl) placed f (judged_broken (rules (meanings_in text)) f is)
    by_verdict cuts (refused-at i) d = first_underived text a b order limits cuts _ (d.exactly.0 refl) (d.at_fault refl)

    right_outcome : (p : Parsing) → Parses text p → RightOutcome p
    right_outcome p parses = go (cut text).ending refl
      where
        go : (e : Ending) → (cut text).ending ≡ e → RightOutcome p
        go whole cuts =
            let v = parses.judged cuts in
            subst RightOutcome (sym v.2) (by_verdict cuts v.0 (subst (ParsingDemand text) v.2 (third_demand text p parses cuts)))
        go (refused n at) e = subst RightOutcome (sym (parses.uncut n at e)) (first_uncut text a b order limits n at e)

  -- of every call
  module _ (answer : Answer) (records records' numbers numbers' : List ℕ) (reads : Reads text answer records records' numbers numbers') where
    abbrev a : ℕ
    a = length records

    abbrev b : ℕ
    b = length numbers

    right_answer : Right text a b answer
    right_answer = go (lent text a b)
      where
        go : Lent text a b → Right text a b answer
        go (short few) = subst (Right text a b) (sym (reads.short few).answered) (first_short text a b order few)
        go (long room space over) = subst (Right text a b) (sym (reads.long room space over).answered) (first_long text a b order room space over)
        go (within limits) =
            let i = reads.read limits.record_room limits.number_room limits.short_text in
            subst (Right text a b) (sym i.2.answered) (right_outcome a b limits i.0 i.1)

    -- number 0 is that of accepted texts alone
    pub accepted_is : number_of answer ≡ 0 → (count : ℕ) × (answer ≡ Ok count)
    accepted_is zero = go answer refl
      where
        go : (x : Answer) → answer ≡ x → (count : ℕ) × (answer ≡ Ok count)
        go (Ok count) e = (count, e)
        go (Err r) e =
            let first : Least text a b r.number r.place.0 = subst (Right text a b) e right_answer in
            absurd (omega (arith, zero, ap number_of e, numbered text a b order r.number r.place.0 first.broken))

    -- within the limits, 1 and 2 are not answered
    pub later_refusal : WithinLimits text a b → 0 < number_of answer → 2 < number_of answer
    later_refusal limits some = go answer refl
      where
        go : (x : Answer) → answer ≡ x → 2 < number_of answer
        go (Ok count) e = absurd (omega (arith, ap number_of e))
        go (Err r) e =
            let first : Least text a b r.number r.place.0 = subst (Right text a b) e right_answer in
            omega (arith, ap number_of e, past_limits text a b order limits r.number r.place.0 first.broken)

    pub refused_exactly : (number place : ℕ) → (answer ≡ refused_by number place) ↔ FirstBreach text a b number place
    refused_exactly number place = (λ e. least_first text a b number place (subst (Right text a b) e right_answer), λ first. go first answer refl)
      where
        go : FirstBreach text a b number place → (x : Answer) → answer ≡ x → answer ≡ refused_by number place
        go first (Ok count) e = absurd (subst (Right text a b) e right_answer number place first.broken)
        go first (Err r) e =
            let one = one_first text a b r.number r.place.0 number place (subst (Right text a b) e right_answer) first in
            e ∙ (λ i. Err (record { number = one.0 i; place = record { 0 = one.1 i } }))

    pub accepted_exactly : (number_of answer ≡ 0) ↔ ((number place : ℕ) → InBreach text a b number place → ⊥)
    accepted_exactly = (
      λ zero. let c = accepted_is zero in subst (Right text a b) c.1 right_answer,
      λ none. unbroken none answer refl,
    )
      where
        unbroken : ((number place : ℕ) → InBreach text a b number place → ⊥) → (x : Answer) → answer ≡ x → number_of answer ≡ 0
        unbroken none (Ok count) e = ap number_of e
        unbroken none (Err r) e =
            let first : Least text a b r.number r.place.0 = subst (Right text a b) e right_answer in
            absurd (none r.number r.place.0 first.broken)
