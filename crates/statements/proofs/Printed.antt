-- The test that request 8 takes out of rule 22 could not fail: each OID of a derived text has two numbers, where 12 is kept.
-- Assumes nothing.
use mathlib.Core.Path.{◌≡◌, refl, ap}
use mathlib.Core.Bool.{true}
use mathlib.Core.List.{List}
use Prim.Native.Nat.{ℕ, ◌≤◌, ◌<◌}
use native.Mathlib.Omega.{arith}
use lib.ListN.{length}
use Rattle.index.proofs.Search.{true_false, answers}
use Rattle.token.specs.Cut.{meanings_in}
use Rattle.module_table.specs.Module.{at, oid_of, count_of}
use Rattle.object_tree.specs.Words.{is_notification}
use Rattle.module_tree.proofs.OfText.{text_numbered}
use Rattle.naming.specs.Values.{named}
use Rattle.oid_head.specs.Oid.{name_of, Reaches, reaches}
use Rattle.oid_head.proofs.Meaning.{far_enough}
use Rattle.reader.specs.Reading.{module_of}
use Rattle.reader.proofs.TwoNumbers as reader
use Rattle.statements.specs.Order.{is_among, ranks_before, rank}
use Rattle.statements.specs.Breach.{Cuts, Derives, definition_count, InBreach, in_module, unreached, First, FirstBreach}
use Rattle.statements.specs.Printed.{PrintedBreach, as_now, short, NoAnswerChanged}

pub two_numbers : (text : List ℕ) → Derives text → (k : ℕ) → Reaches (named (meanings_in text)) (name_of k)
    → 2 ≤ length (oid_of (module_of (meanings_in text)) k)
two_numbers text derives = reader.two_numbers (meanings_in text) (text_numbered text derives)

twelve_before : rank 12 < rank 22
unfolding rank ranks_before is_among
twelve_before = omega arith

module _ (text : List ℕ) (a b : ℕ) where
  abbrev Kept12 : Type 0
  Kept12 = (place : ℕ) → InBreach text a b 12 place → ⊥

  -- where 12 is kept, no notification is short
  never_short : Cuts text → Derives text → Kept12 → (k : ℕ) → k < definition_count (meanings_in text)
      → is_notification (at (module_of (meanings_in text)) k) ≡ true → length (oid_of (module_of (meanings_in text)) k) < 2 → ⊥
  unfolding reaches
  never_short cuts derives kept k inside is few =
      let m = named (meanings_in text) in
      answers (reaches m k)
      (λ t. omega (arith, two_numbers text derives k (count_of m, t)))
      (λ f.
      kept _
      (in_module cuts derives
      (unreached inside (reader.notification_value (meanings_in text) k is) (λ r. true_false (far_enough m k r) f))))

  -- so what is broken by the table as it is printed is broken as it is, if 12 is kept where 22 is asked for
  printed_now : (m q : ℕ) → (m ≡ 22 → Kept12) → PrintedBreach text a b m q → InBreach text a b m q
  printed_now m q kept (as_now x) = x
  printed_now m q kept (short {k} cuts derives inside is few) = absurd (never_short cuts derives (kept refl) k inside is few)

  -- it is kept up to the rank of a first breach
  up_to : (number : ℕ) → ((m q : ℕ) → rank m < rank number → InBreach text a b m q → ⊥) → (m : ℕ) → rank m ≤ rank number → m ≡ 22 → Kept12
  up_to number none m upto is place x = none 12 place (omega (arith, twelve_before, ap rank is)) x

  first_printed : (number place : ℕ) → FirstBreach text a b number place → First (PrintedBreach text a b) number place
  first_printed number place f = record {
    broken = as_now f.broken;
    no_earlier_rank = λ m q less x. f.no_earlier_rank m q less (printed_now m q (up_to number f.no_earlier_rank m (omega arith)) x);
    nowhere_earlier = λ m q same less x. f.nowhere_earlier m q same less (printed_now m q (up_to number f.no_earlier_rank m (omega arith)) x);
  }

  first_now : (number place : ℕ) → First (PrintedBreach text a b) number place → FirstBreach text a b number place
  first_now number place f = record {
    broken = printed_now number place (up_to number (λ m q less x. f.no_earlier_rank m q less (as_now x)) number (omega arith)) f.broken;
    no_earlier_rank = λ m q less x. f.no_earlier_rank m q less (as_now x);
    nowhere_earlier = λ m q same less x. f.nowhere_earlier m q same less (as_now x);
  }

  pub no_answer_changed : NoAnswerChanged text a b
  no_answer_changed = record {
    same_places = λ derives kept place. (as_now, printed_now 22 place (λ is q x. kept 12 q (omega arith) (omega arith) x));
    same_first = λ number place. (first_printed number place, first_now number place);
    same_accepted = (
      λ none number place x. none number place (printed_now number place (λ is q y. none 12 q y) x),
      λ none number place x. none number place (as_now x),
    );
  }
