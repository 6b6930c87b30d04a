-- The first and the second demand, from what each answer says of breaches and from what the contract says of the buffers.
-- Assumes nothing.
use mathlib.Core.Path.{◌≡◌, refl, sym, ap, ap₂, subst, ◌∙◌}
use mathlib.Core.Logic.{◌⊎◌, ⊎_elim}
use mathlib.Core.Bool.{true, false}
use mathlib.Core.List.{List, []}
use Prim.Native.Nat.{ℕ, ◌*◌, ◌≤◌, ◌<◌}
use native.Mathlib.Omega.{arith}
use lib.ListN.{length, take, drop}
use Rattle.rule.specs.Rule.{judge}
use Rattle.rule.proofs.Judged.{AllKept, judged_kept}
use Rattle.token.specs.Token.{Meaning}
use Rattle.token.specs.Cut.{cut, meanings_in}
use Rattle.syntax.specs.Parsing.{Parsing}
use Rattle.module_table.specs.Module.{at}
use Rattle.module_table.specs.Module.{count_of as definitions_in}
use Rattle.naming.specs.Rules.{name_rules}
use Rattle.naming.specs.Values.{named}
use Rattle.oid_head.specs.Oid.{has_value, resolved_oid}
use Rattle.oid_head.specs.Unreached.{unreached}
use Rattle.oid_head.proofs.Unreached.{kept_has_oid, kept_one_oid}
use Rattle.reader.proofs.Counting.{module_counted}
use Rattle.records.specs.Record.{record_width}
use Rattle.records.proofs.Words.{before_long}
use Rattle.reader.specs.Reading.{Outcome, accepted, refused, rules, later_rules, oid_rules, module_of, records_of, starts_of, ends_of, judged, outcome}
use Rattle.reader.specs.Buffers.{number_of, place_of, answered_count, record_words, number_words, filled, answer_to, records_in, numbers_in, Left, Reads, Answer}
use Rattle.reader.proofs.Kept.{accepted_kept}
use Rattle.statements.proofs.Ordered.{Placed}
use Rattle.statements.specs.Breach.{WithinLimits}
use Rattle.statements.specs.Statements.{OidIs, record_word, FirstDemand, SecondDemand}
use Rattle.statements.proofs.Limits.{Lent, short, long, within, lent}
use Rattle.statements.proofs.Filled.{filled_beyond, filled_unused}
use Rattle.reader.proofs.Leaving.{recorded_oid}
use Rattle.statements.proofs.CutOut.{words_cut}
use Rattle.statements.proofs.Room.{kept_rest, words_fit}
use Rattle.statements.proofs.Breaches.{Ordered}
use Rattle.statements.proofs.Right.{refused_exactly, accepted_exactly, accepted_is, later_refusal}
use Rattle.std.specs.Prelude.{Ok, Err}

-- where all rules are kept, each definition of a kind with an OID has the numbers that are resolved, and no others
resolved_of : (ms : List Meaning) → AllKept (rules ms) → (k : ℕ) → k < definitions_in (module_of ms) → has_value (at (named ms) k) ≡ true
    → OidIs (named ms) k (resolved_oid (named ms) k)
unfolding rules later_rules oid_rules unreached
resolved_of ms kept k h has = (kept_has_oid (named ms) k reached has, kept_one_oid (named ms) k reached has)
  where
    reached : (unreached (named ms)).breach k ≡ false
    reached = (kept_rest (name_rules ms) (later_rules ms) kept).0 k (omega arith) (omega (arith, module_counted ms))

-- after a refusal no word is read
none_read : (o : Outcome) → 0 < number_of (answer_to o) → (records_in o ≡ []) × (numbers_in o ≡ [])
none_read (accepted count records numbers) some = absurd (omega arith)
none_read (refused number clause place other) some = (refl, refl)

module _ (text : List ℕ) (order : Ordered (meanings_in text)) (placed : Placed (length (meanings_in text)) (rules (meanings_in text)))
    (answer : Answer) (records records' numbers numbers' : List ℕ) (reads : Reads text answer records records' numbers numbers') where
  -- number 1 or 2, with nothing changed
  nothing_changed : (right : Answer) → Left answer right records' records numbers' numbers → 0 < number_of right → number_of right ≤ 2
      → FirstDemand text answer records records' numbers numbers'
  nothing_changed right left some few =
      let number : number_of answer ≡ number_of right = ap number_of left.answered in
      record {
        unchanged = λ which. (left.records_left, left.numbers_left);
        zeroed = λ more. absurd (omega arith);
        beyond = (ap (drop record_words) left.records_left, ap (drop number_words) left.numbers_left);
        unused = λ zero. absurd (omega arith);
      }

  -- what is read of a text within the limits
  module _ (limits : WithinLimits text (length records) (length numbers)) where
    parsing : Parsing
    parsing = (reads.read limits.record_room limits.number_room limits.short_text).0

    abbrev found : Outcome
    found = outcome text parsing

    left : Left answer (answer_to found) records' (filled record_words (records_in found) records) numbers' (filled number_words (numbers_in found) numbers)
    unfolding parsing
    left = (reads.read limits.record_room limits.number_room limits.short_text).2

    fit : (length (records_in found) ≤ record_words) × (length (numbers_in found) ≤ number_words)
    fit = words_fit text parsing

    -- where it is accepted
    module _ (zero : number_of answer ≡ 0) where
      all_kept : (judge (rules (meanings_in text)) ≡ Ok tt) × (found ≡ judged (cut text).tokens (Ok tt))
      all_kept =
          let c = accepted_is text order placed answer records records' numbers numbers' reads zero in
          accepted_kept text parsing c.0 (sym left.answered ∙ c.1)

      found_all : found ≡ judged (cut text).tokens (Ok tt)
      found_all = all_kept.1

      all_counted : answered_count answer ≡ definitions_in (module_of (meanings_in text))
      all_counted = ap answered_count left.answered ∙ ap (λ (o : Outcome). answered_count (answer_to o)) found_all

      records_long : length (records_in found) ≡ answered_count answer * record_width
      records_long =
          ap (λ (o : Outcome). length (records_in o)) found_all
          ∙ before_long (starts_of (cut text).tokens) (ends_of (cut text).tokens) (module_of (meanings_in text)).definitions (definitions_in (module_of (meanings_in text)))
          ∙ ap (λ (c : ℕ). c * record_width) (sym all_counted)

      numbers_long : length (numbers_in found) ≡ length (module_of (meanings_in text)).numbers
      numbers_long = ap (λ (o : Outcome). length (numbers_in o)) found_all

    first_within : FirstDemand text answer records records' numbers numbers'
    first_within = record {
      unchanged = λ which.
          let more = later_refusal text order placed answer records records' numbers numbers' reads limits in
          absurd (⊎_elim (λ one. omega (arith, more (omega (arith, one)))) (λ two. omega (arith, more (omega (arith, two)))) which);
      zeroed = λ more.
          let none = none_read found (omega (arith, ap number_of left.answered)) in (
            left.records_left ∙ ap (λ (w : List ℕ). filled record_words w records) none.0,
            left.numbers_left ∙ ap (λ (w : List ℕ). filled number_words w numbers) none.1,
          );
      beyond = (
        ap (drop record_words) left.records_left ∙ filled_beyond record_words (records_in found) records fit.0,
        ap (drop number_words) left.numbers_left ∙ filled_beyond number_words (numbers_in found) numbers fit.1,
      );
      unused = λ zero. (
        ap (λ (w : List ℕ). drop (answered_count answer * record_width) (take record_words w)) left.records_left
            ∙ filled_unused record_words (records_in found) records fit.0 _ (records_long zero),
        ap (λ (w : List ℕ). drop (length (module_of (meanings_in text)).numbers) (take number_words w)) left.numbers_left
            ∙ filled_unused number_words (numbers_in found) numbers fit.1 _ (numbers_long zero),
      );
    }

  pub first_demand : FirstDemand text answer records records' numbers numbers'
  first_demand = go (lent text (length records) (length numbers))
    where
      go : Lent text (length records) (length numbers) → FirstDemand text answer records records' numbers numbers'
      go (short few) = nothing_changed _ (reads.short few) (omega arith) (omega arith)
      go (long room space over) = nothing_changed _ (reads.long room space over) (omega arith) (omega arith)
      go (within limits) = first_within limits

  -- an accepted text is within the limits
  accepted_within : number_of answer ≡ 0 → WithinLimits text (length records) (length numbers)
  accepted_within zero = go (lent text (length records) (length numbers))
    where
      go : Lent text (length records) (length numbers) → WithinLimits text (length records) (length numbers)
      go (short few) = absurd (omega (arith, ap number_of (reads.short few).answered))
      go (long room space over) = absurd (omega (arith, ap number_of (reads.long room space over).answered))
      go (within limits) = limits

  -- a refusal has no count
  refusal_count : (x : Answer) → 0 < number_of x → answered_count x ≡ 0
  refusal_count (Ok count) some = absurd (omega arith)
  refusal_count (Err r) some = refl

  -- what is left of an accepted text
  module _ (zero : number_of answer ≡ 0) where
    rules_kept : AllKept (rules (meanings_in text))
    rules_kept = judged_kept (rules (meanings_in text)) (all_kept (accepted_within zero) zero).0

    records_are : records' ≡ filled record_words (records_of (cut text).tokens (module_of (meanings_in text))) records
    records_are =
        let limits = accepted_within zero in
        (left limits).records_left ∙ ap (λ (o : Outcome). filled record_words (records_in o) records) (found_all limits zero)

    numbers_are : numbers' ≡ filled number_words (module_of (meanings_in text)).numbers numbers
    numbers_are =
        let limits = accepted_within zero in
        (left limits).numbers_left ∙ ap (λ (o : Outcome). filled number_words (numbers_in o) numbers) (found_all limits zero)

    cut_of : (k : ℕ) → k < definitions_in (module_of (meanings_in text))
        → take (record_word records' k 4) (drop (record_word records' k 3) numbers') ≡ resolved_oid (named (meanings_in text)) k
    cut_of k h =
        ap₂ (λ (r n : List ℕ). take (record_word r k 4) (drop (record_word r k 3) n)) records_are numbers_are
        ∙ words_cut (meanings_in text) (starts_of (cut text).tokens) (ends_of (cut text).tokens) records numbers k h

  pub second_demand : SecondDemand text answer records records' numbers numbers'
  second_demand = record {
    refused_exactly = refused_exactly text order placed answer records records' numbers numbers' reads;
    accepted_exactly = accepted_exactly text order placed answer records records' numbers numbers' reads;
    counted = λ zero. (
      ap place_of (accepted_is text order placed answer records records' numbers numbers' reads zero).1,
      all_counted (accepted_within zero) zero,
    );
    not_counted = refusal_count answer;
    recorded = records_are;
    numbered = numbers_are;
    resolved = λ zero k h has.
        subst (OidIs (named (meanings_in text)) k) (sym (recorded_oid (meanings_in text) k)) (resolved_of (meanings_in text) (rules_kept zero) k h has);
    cut_out = λ zero k h has.
        let inside : k < definitions_in (module_of (meanings_in text)) = omega (arith, all_counted (accepted_within zero) zero) in
        rw (cut_of zero k inside) (resolved_of (meanings_in text) (rules_kept zero) k inside has);
  }
