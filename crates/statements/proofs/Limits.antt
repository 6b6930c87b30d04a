-- The three ends of a call, by what is lent: a buffer too short, a text too long, or all within the limits.
-- Assumes nothing.
use mathlib.Core.Logic.{◌⊎◌, inl, inr}
use mathlib.Core.List.{List}
use Prim.Native.Nat.{ℕ, ◌≤◌, ◌<◌}
use native.Mathlib.Decide.{dec_lt}
use native.Mathlib.Omega.{arith}
use lib.ListN.{length}
use Rattle.token.specs.Table.{longest_text}
use Rattle.reader.specs.Buffers.{record_words, number_words}
use Rattle.statements.specs.Breach.{WithinLimits}

pub data Lent (text : List ℕ) (records numbers : ℕ) : Type 0 where
  short : (records < record_words) ⊎ (numbers < number_words) → Lent text records numbers
  long : record_words ≤ records → number_words ≤ numbers → longest_text < length text → Lent text records numbers
  within : WithinLimits text records numbers → Lent text records numbers

pub lent : (text : List ℕ) (records numbers : ℕ) → Lent text records numbers
lent text records numbers = go (dec_lt records record_words) (dec_lt numbers number_words) (dec_lt longest_text (length text))
  where
    go : Dec (records < record_words) → Dec (numbers < number_words) → Dec (longest_text < length text) → Lent text records numbers
    go (yes few) f l = short (inl few)
    go (no e) (yes few) l = short (inr few)
    go (no e) (no f) (yes over) = long (omega arith) (omega arith) over
    go (no e) (no f) (no l) = within (record { record_room = omega arith; number_room = omega arith; short_text = omega arith })
