-- What the contracts of the two printing calls say: an answer by its number, place and length, every byte of the buffer, and
-- that two calls with equal arguments do the same.
-- Assumes nothing.
use mathlib.Core.Path.{◌≡◌, refl, sym, ap, ◌∙◌}
use mathlib.Core.Bool.{Bool, true, false, cond}
use mathlib.Core.List.{List}
use Prim.Native.Nat.{ℕ, ◌*◌, ◌≤◌, ◌<◌}
use native.Mathlib.Omega.{arith}
use lib.Dec.{ltb, eqb}
use lib.ListN.{length, get_or}
use borrow.Author.Tests.{ne_eqb}
use Rattle.hint_form.specs.Hint.{Reading, pieces, none, read_hint}
use Rattle.hint_form.specs.declared.Piece.{Piece}
use Rattle.hint_piece.specs.Use.{Outcome, printed, fault}
use Rattle.hint.specs.Print.{printing}
use Rattle.hint.specs.Answer.{Answer, Verdict, text, refusal, octets_part, of_outcome, by_pieces, octets_verdict, number, place, size, buffer, number_of, place_of, length_of, Answered}
use Rattle.std.proofs.Common.{Ok, Err}
use Rattle.hint.specs.declared.Refusal.TheVariants.{ShortBuffer, LongValue, BadHint, BadOctet, OutOfRange}
use Rattle.hint.proofs.Laws.{output_bound}
use Rattle.statements.specs.Statements.{Prints}

-- the answer that has this number, place and length
abbrev answer_with : ℕ → ℕ → ℕ → Answer
answer_with n at long =
    cond (eqb n 0) (Ok long)
    (Err (cond (eqb n 30) ShortBuffer (cond (eqb n 31) LongValue (cond (eqb n 32) BadHint (cond (eqb n 33) (BadOctet at) OutOfRange)))))

by_values : (x : Answer) → x ≡ answer_with (number_of x) (place_of x) (length_of x)
by_values (Ok n) = refl
by_values (Err ShortBuffer) = refl
by_values (Err LongValue) = refl
by_values (Err BadHint) = refl
by_values (Err (BadOctet at)) = refl
by_values (Err OutOfRange) = refl

module _ (part : ℕ) (v : Verdict) (before : List ℕ) where
  pub prints : (answer : Answer) (after : List ℕ) → Answered part v answer before after → Prints part v answer before after
  unfolding number place size buffer
  prints answer after a = record {
    printed = λ t e. (
      by_values answer
          ∙ ap (λ (n : ℕ). answer_with n (place_of answer) (length_of answer)) (a.number_is ∙ ap number e)
          ∙ ap Ok (a.length_is ∙ ap size e),
      left e,
    );
    unchanged = λ at e. (
      by_values answer ∙ ap (λ (n : ℕ). answer_with n (place_of answer) (length_of answer)) (a.number_is ∙ ap number e),
      left e,
    );
    zeroed = λ n at e other. (
      a.number_is ∙ ap number e,
      a.place_is ∙ ap place e,
      a.length_is ∙ ap size e,
      left e ∙ simp (ne_eqb n 30 other),
    );
  }
    where
      left : {w : Verdict} → v ≡ w → after ≡ buffer part w before
      left e = a.buffer_is ∙ ap (λ (w : Verdict). buffer part w before) e

  pub printed_alike : (x y : Answer) (a b : List ℕ) → Answered part v x before a → Answered part v y before b → (x ≡ y) × (a ≡ b)
  printed_alike x y a b p q = (
    by_values x
        ∙ ap (λ (n : ℕ). answer_with n (place_of x) (length_of x)) (p.number_is ∙ sym q.number_is)
        ∙ ap (λ (at : ℕ). answer_with (number_of y) at (length_of x)) (p.place_is ∙ sym q.place_is)
        ∙ ap (answer_with (number_of y) (place_of y)) (p.length_is ∙ sym q.length_is)
        ∙ sym (by_values y),
    p.buffer_is ∙ sym q.buffer_is,
  )

-- the text of octets has at most four bytes for each
pub octets_bound : (room : ℕ) (hint value t : List ℕ) → ((k : ℕ) → get_or value k 0 < 256) → octets_verdict room hint value ≡ text t
    → length t ≤ 4 * length value
unfolding octets_verdict by_pieces of_outcome
octets_bound room hint value t octets e = tested (ltb room octets_part) (ltb 1024 (length value)) e
  where
    outcome : (ps : List Piece) → read_hint hint ≡ pieces ps → (o : Outcome) → printing ps value ≡ o → of_outcome o ≡ text t → length t ≤ 4 * length value
    outcome ps is (printed s) made e =
        let same : s ≡ t = cc in
        output_bound hint value ps t octets is (made ∙ ap printed same)
    outcome ps is (fault at) made e = let z : ◌≡◌ {A = ℕ} 0 1 = cc in absurd (omega arith)

    reading : (r : Reading) → read_hint hint ≡ r → by_pieces r value ≡ text t → length t ≤ 4 * length value
    reading (pieces ps) is e = outcome ps is (printing ps value) refl e
    reading none is e = let z : ◌≡◌ {A = ℕ} 0 1 = cc in absurd (omega arith)

    tested : (a b : Bool) → cond a (refusal 30 0) (cond b (refusal 31 0) (by_pieces (read_hint hint) value)) ≡ text t → length t ≤ 4 * length value
    tested true b e = let z : ◌≡◌ {A = ℕ} 0 1 = cc in absurd (omega arith)
    tested false true e = let z : ◌≡◌ {A = ℕ} 0 1 = cc in absurd (omega arith)
    tested false false e = reading (read_hint hint) refl e
