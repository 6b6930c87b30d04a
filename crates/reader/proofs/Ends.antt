-- The four ends of reading a module: a short buffer, a long text, and a text that is read.
-- Assumes nothing.
use mathlib.Core.Path.{◌≡◌, refl, ap, ◌∙◌}
use mathlib.Core.Logic.{◌⊎◌, inl, inr}
use mathlib.Core.List.{List, ◌++◌}
use Prim.Native.Nat.{ℕ, ◌≤◌, ◌<◌}
use native.Mathlib.Omega.{arith}
use lib.ListN.{length, drop}
use Rattle.token.specs.Table.{longest_text}
use Rattle.reader.specs.Reading.{Outcome, accepted, refused, outcome}
use Rattle.reader.specs.Buffers.{record_words, number_words, alone, answer_to, examined_to, answer_of, ReadParts, Left, Reads, Examines, Examined}

module _ (text records numbers : List ℕ) where
  -- buffers that are long enough are not too short
  enough : record_words ≤ length records → number_words ≤ length numbers → (length records < record_words) ⊎ (length numbers < number_words) → ⊥
  enough room space (inl less) = omega (arith, less, room)
  enough room space (inr less) = omega (arith, less, space)

  pub ends_short : (length records < record_words) ⊎ (length numbers < number_words)
      → Examines text (alone 1 0) records records numbers numbers
  ends_short few = record {
    short = λ which. record { answered = refl; records_left = refl; numbers_left = refl };
    long = λ room space over. absurd (enough room space few);
    read = λ room space within. absurd (enough room space few);
  }

  module _ (room : record_words ≤ length records) (space : number_words ≤ length numbers) where
    pub ends_long : longest_text < length text → Examines text (alone 2 0) records records numbers numbers
    ends_long over = record {
      short = λ which. absurd (enough room space which);
      long = λ r s o. record { answered = refl; records_left = refl; numbers_left = refl };
      read = λ r s within. absurd (omega (arith, over, within));
    }

    pub ends_read : (answer : Examined) (part run : List ℕ) → length text ≤ longest_text → ReadParts text answer part run
        → Examines text answer records (part ++ drop record_words records) numbers (run ++ drop number_words numbers)
    ends_read answer part run within p = record {
      short = λ which. absurd (enough room space which);
      long = λ r s over. absurd (omega (arith, over, within));
      read = λ r s w. (
        p.parsing,
        p.right,
        record {
          answered = p.answered;
          records_left = ap (λ words. words ++ drop record_words records) p.records_left;
          numbers_left = ap (λ words. words ++ drop number_words numbers) p.numbers_left;
        },
      );
    }

-- ---- number, place and count alone

-- what is answered of what is found
same_answer : (o : Outcome) → answer_of (examined_to o) ≡ answer_to o
same_answer (accepted count records numbers) = refl
same_answer (refused number clause place other) = refl

left_as : (o : Outcome) {e : Examined} {records words numbers run : List ℕ} → Left e (examined_to o) records words numbers run → Left (answer_of e) (answer_to o) records words numbers run
left_as o l = record {
  answered = ap answer_of l.answered ∙ same_answer o;
  records_left = l.records_left;
  numbers_left = l.numbers_left;
}

pub read_as : {text : List ℕ} {e : Examined} {records records' numbers numbers' : List ℕ} → Examines text e records records' numbers numbers'
    → Reads text (answer_of e) records records' numbers numbers'
read_as {text} x = record {
  short = λ few. left_as (refused 1 0 0 0) (x.short few);
  long = λ room space over. left_as (refused 2 0 0 0) (x.long room space over);
  read = λ room space within.
      let found = x.read room space within in
      (found.0, found.1, left_as (outcome text found.0) found.2);
}
