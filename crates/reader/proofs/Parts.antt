-- What reading into cleared parts leaves: the words that were read and then zeros, or zeros alone.
-- Assumes nothing.
use mathlib.Core.Path.{◌≡◌, refl, sym, ap, ◌∙◌}
use mathlib.Core.List.{List, ◌++◌}
use Prim.Native.Nat.{ℕ, ◌-◌, ◌≤◌}
use native.Mathlib.Omega.{arith}
use lib.ListN.{length, drop, length-append, length-drop}
use Rattle.token.specs.Table.{overlaid}
use Rattle.reader.specs.Reading.{Outcome, accepted, refused, outcome}
use Rattle.reader.specs.Buffers.{record_words, number_words, zeros, examined_to, records_in, numbers_in, Laid, ReadInto, ReadParts, Examined}
use Rattle.reader.specs.declared.Refusal.{Refusal}
use Rattle.reader.proofs.Clearing.{laid_over_zeros, cleared_again}
use Rattle.std.specs.Prelude.{Ok, Err}

-- what is laid over a buffer, and leaves it as long as it was, is no longer than it
laid_room : (words before after : List ℕ) → after ≡ overlaid words before → length after ≡ length before → length words ≤ length before
laid_room words before after is same =
    omega (arith, ap length is, same, length-append words (drop (length words) before), length-drop (length words) before)

module _ (text : List ℕ) (answer : Examined) (records records' numbers numbers' : List ℕ) (i : ReadInto text answer records records' numbers numbers') where
  abbrev found : Outcome
  found = outcome text i.parsing

  module _ (rs : records ≡ zeros record_words) (ns : numbers ≡ zeros number_words) (rl : length records ≡ record_words) (nl : length numbers ≡ number_words)
      (rk : length records' ≡ length records) (nk : length numbers' ≡ length numbers) where
    pub parts_accepted : (count : ℕ) → answer ≡ Ok count → ReadParts text answer records' numbers'
    parts_accepted count e = record {
      parsing = i.parsing;
      right = i.right;
      answered = i.answered;
      records_left = (both found refl i.laid).0;
      numbers_left = (both found refl i.laid).1;
    }
      where
        both : (o : Outcome) → found ≡ o → Laid o records records' numbers numbers'
            → (records' ≡ records_in o ++ zeros (record_words - length (records_in o))) × (numbers' ≡ numbers_in o ++ zeros (number_words - length (numbers_in o)))
        both (accepted c words subs) is laid = (
          laid_over_zeros words records records' record_words rs (omega (arith, laid_room words records records' laid.0 rk)) laid.0,
          laid_over_zeros subs numbers numbers' number_words ns (omega (arith, laid_room subs numbers numbers' laid.1 nk)) laid.1,
        )
        both (refused n l p o) is laid =
            let same : examined_to (refused n l p o) ≡ Ok count = sym (ap examined_to is) ∙ sym i.answered ∙ e in
            let z : ◌≡◌ {A = ℕ} 0 1 = cc in
            absurd (omega arith)

  -- after a refusal the record buffer is as it was cleared
  pub parts_refused : (none : List ℕ) (r : Refusal) → answer ≡ Err r → records ≡ zeros record_words → none ≡ zeros number_words
      → ReadParts text answer records' none
  parts_refused none r e rs nc = record {
    parsing = i.parsing;
    right = i.right;
    answered = i.answered;
    records_left = (both found refl i.laid).0;
    numbers_left = (both found refl i.laid).1;
  }
    where
      both : (o : Outcome) → found ≡ o → Laid o records records' numbers numbers'
          → (records' ≡ records_in o ++ zeros (record_words - length (records_in o))) × (none ≡ numbers_in o ++ zeros (number_words - length (numbers_in o)))
      both (accepted c words subs) is laid =
          let same : examined_to (accepted c words subs) ≡ Err r = sym (ap examined_to is) ∙ sym i.answered ∙ e in
          let z : ◌≡◌ {A = ℕ} 0 1 = cc in
          absurd (omega arith)
      both (refused n l p o) is laid = (
        cleared_again records' record_words record_words (laid.0 ∙ rs) refl,
        cleared_again none number_words number_words nc refl,
      )
