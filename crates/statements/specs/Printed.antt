-- Rule 22 as document 01 prints it: "a notification's next-to-last number isn't 0, or it has fewer than two; or it lists a not-accessible
-- object". Request 8 of document 02 takes "or it has fewer than two" out. What it means that no answer changes by that.
-- Assumes nothing.
use Rattle.std.specs.Prelude.{◌≡◌, ◌↔◌, true, List, ℕ, ◌≤◌, ◌<◌, length}
use Rattle.token.specs.Cut.{cut, meanings_in}
use Rattle.module_table.specs.Module.{at, oid_of}
use Rattle.object_tree.specs.Words.{is_notification}
use Rattle.reader.specs.Reading.{module_of, start_of}
use Rattle.statements.specs.Breach.{Cuts, Derives, definition_count, name_token, InBreach, First, FirstBreach}

-- The rule of this number is broken at this place, by the table as it is printed: as now, or a notification has fewer than two numbers.
pub data PrintedBreach (text : List ℕ) (records numbers : ℕ) : ℕ → ℕ → Type 0 where
  as_now : {number place : ℕ} → InBreach text records numbers number place → PrintedBreach text records numbers number place
  short : {k : ℕ} → Cuts text → Derives text → k < definition_count (meanings_in text)
      → is_notification (at (module_of (meanings_in text)) k) ≡ true → length (oid_of (module_of (meanings_in text)) k) < 2
      → PrintedBreach text records numbers 22 (start_of (cut text).tokens (name_token (meanings_in text) k))

-- Nothing is answered otherwise by the table as it is printed than by the table as it is.
pub record NoAnswerChanged (text : List ℕ) (records numbers : ℕ) : Type 0 where
  -- where the tokens are derived and 8 to 21 are kept, both rules 22 are broken at the same places
  pub same_places : Derives text
      → ((number place : ℕ) → 8 ≤ number → number ≤ 21 → InBreach text records numbers number place → ⊥)
      → (place : ℕ) → InBreach text records numbers 22 place ↔ PrintedBreach text records numbers 22 place
  -- so every text has the same first breach
  pub same_first : (number place : ℕ)
      → FirstBreach text records numbers number place ↔ First (PrintedBreach text records numbers) number place
  -- and none where it had none
  pub same_accepted : ((number place : ℕ) → InBreach text records numbers number place → ⊥)
      ↔ ((number place : ℕ) → PrintedBreach text records numbers number place → ⊥)
