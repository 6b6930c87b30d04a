-- Of a record that document 01 allows nothing is cut: where its name has at most 64 bytes and its OID at most 128 numbers, its line has
-- the whole of both.
-- Assumes nothing.
use mathlib.Core.Path.{◌≡◌, ap}
use mathlib.Core.List.{List}
use Prim.Native.Nat.{ℕ, ◌≤◌, min}
use native.Mathlib.Omega.{arith}
use lib.ListN.{get_or, take, drop}
use Rattle.lexicon.specs.Word.{longest_name}
use Rattle.card_line.specs.Line.{longest_oid, name, sub_identifiers}

module _ (words : List ℕ) where
  pub whole_name : (text : List ℕ) → get_or words 2 0 ≤ longest_name
      → name text words ≡ take (get_or words 2 0) (drop (get_or words 1 0) text)
  whole_name text h =
      let all : min (get_or words 2 0) longest_name ≡ get_or words 2 0 = omega arith in
      ap (λ (n : ℕ). take n (drop (get_or words 1 0) text)) all

  pub whole_oid : (numbers : List ℕ) → get_or words 4 0 ≤ longest_oid
      → sub_identifiers numbers words ≡ take (get_or words 4 0) (drop (get_or words 3 0) numbers)
  whole_oid numbers h =
      let all : min (get_or words 4 0) longest_oid ≡ get_or words 4 0 = omega arith in
      ap (λ (n : ℕ). take n (drop (get_or words 3 0) numbers)) all
