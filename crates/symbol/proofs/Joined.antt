-- Lists that are held one after the other, with where each starts: what stands between two starts is the list.
-- Assumes nothing.
use mathlib.Core.Path.{◌≡◌, sym, ◌∙◌}
use mathlib.Core.Bool.{Bool}
use mathlib.Core.List.{List, []}
use Prim.Native.Nat.{ℕ, suc, ◌+◌, ◌-◌, ◌<◌}
use native.Mathlib.Omega.{arith}
use lib.Dec.{T}
use lib.ListN.{length, get_or, get_or-append}
use lib.Seq.{get_or-drop}
use Rattle.index.proofs.Tested.{passes}
use Rattle.lexicon.specs.Word.{same, joined, start_of, Within}
use Rattle.lexicon.proofs.Words.{word_part, word_ends, starts_there, starts_right, word_within, word_compared}
use Rattle.symbol.specs.Symbol.{start_in, part, Joined}

-- a table that is the joined lists, with starts that pass the test
pub joined_table : (parts : List (List ℕ)) (whole starts : List ℕ) → whole ≡ joined parts → length starts ≡ suc (length parts) → T (passes (starts_there parts) 0 starts) → Joined parts whole starts
unfolding start_in
joined_table parts whole starts all long t =
    record { whole_is = all; starts_are = starts_right parts starts long t }

-- the list k of a table
module _ (parts : List (List ℕ)) (whole starts : List ℕ) (t : Joined parts whole starts) (k : ℕ) (h : k < length parts) where
  from_is : start_in starts k ≡ start_of parts k
  from_is = t.starts_are k (omega arith)

  to_is : start_in starts (k + 1) ≡ start_of parts (k + 1)
  to_is = t.starts_are (k + 1) (omega arith)

  pub part_within : Within whole (start_in starts k) (start_in starts (k + 1))
  part_within = word_within parts whole t.whole_is k _ _ h from_is to_is

  pub part_compared : (name : List ℕ) {r : Bool} → r ≡ same name (part whole starts k) → r ≡ same name (get_or parts k [])
  part_compared = word_compared parts whole t.whole_is k _ _ h from_is to_is

  -- it is as long as its ends lie apart
  part_ends : start_in starts (k + 1) ≡ start_in starts k + length (get_or parts k [])
  part_ends = omega (arith, from_is, to_is, word_ends parts k h)

  -- and has its elements from its start on
  pub part_length : {from to : ℕ} → from ≡ start_in starts k → to ≡ start_in starts (k + 1) → to ≡ from + length (get_or parts k [])
  part_length f t = omega (arith, part_ends)

  pub part_inside : {from : ℕ} → from ≡ start_in starts k → (j : ℕ) → j < length (get_or parts k []) → from + j < length whole
  part_inside f j l = omega (arith, part_ends, part_within.inside)

  pub part_at : {from : ℕ} → from ≡ start_in starts k → (j : ℕ) → j < length (get_or parts k []) → get_or whole (from + j) 0 ≡ get_or (get_or parts k []) j 0
  part_at f j l =
      rw (f, t.whole_is, from_is)
      (sym (get_or-drop (start_of parts k) (joined parts) j 0)
      ∙ rw (word_part parts k h) (get_or-append (get_or parts k []) _ 0 j l))
