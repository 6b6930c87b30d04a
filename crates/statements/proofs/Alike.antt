-- What the reader's contract says of two calls: new bytes between quotes, and none at all, change neither answer nor buffers.
-- Assumes nothing.
use mathlib.Core.Path.{◌≡◌, refl, sym, ap, subst, ◌∙◌}
use mathlib.Core.Logic.{inl}
use mathlib.Core.List.{List}
use Prim.Native.Nat.{ℕ}
use native.Mathlib.Omega.{arith}
use lib.ListN.{length}
use Rattle.rule.specs.Rule.{judge}
use Rattle.token.specs.Token.{meanings}
use Rattle.token.specs.Cut.{Cut, cut}
use Rattle.token.specs.Law.{QuotedChange}
use Rattle.token.proofs.Quotes.{quotes}
use Rattle.syntax.specs.Parsing.{Parsing}
use Rattle.syntax.specs.Parsing.{Derived, Underived, Uncut}
use Rattle.syntax.proofs.Parsed.{quotes_answer}
use Rattle.reader.specs.Reading.{Outcome, rules, judged, outcome}
use Rattle.reader.specs.Buffers.{record_words, number_words, records_in, numbers_in, filled, Left}
use Rattle.statements.specs.Statements.{AlikeAs}
use Rattle.statements.proofs.Limits.{Lent, short, long, within, lent}

-- the outcome of a text hangs on its cut alone
same_outcome : (a b : List ℕ) → cut a ≡ cut b → (p : Parsing) → outcome a p ≡ outcome b p
same_outcome a b same (Derived n) = ap (λ (c : Cut). judged c.tokens (judge (rules (meanings c.tokens)))) same
same_outcome a b same (Underived n at) = refl
same_outcome a b same (Uncut number at) = refl

-- two calls with the same answer to give, and the same words to leave, answer and leave the same
both_left : {A : Type 0} {x y right : A} {records records' words numbers numbers' run : List ℕ}
    → Left x right records words numbers run → Left y right records' words numbers' run
    → (x ≡ y) × (records ≡ records') × (numbers ≡ numbers')
both_left l m =
    (l.answered ∙ sym m.answered, l.records_left ∙ sym m.records_left, l.numbers_left ∙ sym m.numbers_left)

pub quotes_alike : {A : Type 0} (of : Outcome → A) (a b : List ℕ) → QuotedChange a b → AlikeAs of a b
quotes_alike of a b change x y records r s numbers m n p q = go (lent a (length records) (length numbers))
  where
    go : Lent a (length records) (length numbers) → (x ≡ y) × (r ≡ s) × (m ≡ n)
    go (short few) = both_left (p.short few) (q.short few)
    go (long room space over) = both_left (p.long room space over) (q.long room space (omega (arith, over, change.same_length)))
    go (within limits) =
        let i = p.read limits.record_room limits.number_room limits.short_text in
        let j = q.read limits.record_room limits.number_room (omega (arith, limits.short_text, change.same_length)) in
        let one : outcome b j.0 ≡ outcome a i.0 =
        sym (same_outcome a b (quotes a b change) j.0) ∙ ap (outcome a) (sym (quotes_answer a b change i.0 j.0 i.1 j.1)) in
        both_left i.2 (subst (λ (o : Outcome). Left y (of o) s (filled record_words (records_in o) records) n (filled number_words (numbers_in o) numbers)) one j.2)

-- of one text and the same buffers there is one answer, and one state of each buffer afterwards
pub read_once : {A : Type 0} (of : Outcome → A) (text : List ℕ) → AlikeAs of text text
read_once of text = quotes_alike of text text (record { same_length = refl; same_or_quoted = λ i h. inl refl })
