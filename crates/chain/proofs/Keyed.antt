-- The laws of keys: each is one that a chain has, and that of a part of a list is made of the part's length and last entries.
-- Assumes nothing.
use mathlib.Core.Path.{◌≡◌, refl, ap, ◌∙◌}
use mathlib.Core.Bool.{Bool, true, false, cond}
use mathlib.Core.List.{List}
use Prim.Native.Nat.{ℕ, ◌+◌, ◌-◌, ◌≤◌, ◌<◌}
use native.Mathlib.Omega.{arith}
use lib.Dec.{ltb}
use lib.ListN.{length, get_or, take, drop, length-drop}
use lib.Seq.{get_or-drop, get_or-take, length-take-le}
use borrow.Author.Tests.{lt-ltb, le-ltb, ltb-true}
use Rattle.chain.specs.Chain.{key_count}
use Rattle.chain.specs.Key.{key, list_key}

pub key_few : (l : List ℕ) → list_key l < key_count
unfolding list_key
key_few l = go (ltb (length l) 3) refl
  where
    go : (b : Bool) → ltb (length l) 3 ≡ b
        → cond b (length l) (key (length l) (get_or l (length l - 3) 0) (get_or l (length l - 2) 0) (get_or l (length l - 1) 0)) < key_count
    go true e = omega (arith, ltb-true (length l) 3 e)
    go false e = omega arith

-- the part of a list from an index on, so many entries
module _ (l : List ℕ) (from count : ℕ) (inside : from + count ≤ length l) where
  part_length : length (take count (drop from l)) ≡ count
  part_length = length-take-le count (drop from l) (omega (arith, length-drop from l))

  part_entry : (n k : ℕ) → from + n ≡ k → n < count → get_or (take count (drop from l)) n 0 ≡ get_or l k 0
  part_entry n k e h = get_or-take count (drop from l) n 0 h ∙ get_or-drop from l n 0 ∙ ap (λ (i : ℕ). get_or l i 0) e

  pub short_key : count < 3 → count ≡ list_key (take count (drop from l))
  unfolding list_key
  short_key h = rw part_length (simp (lt-ltb count 3 h))

  pub long_key : 3 ≤ count → (end : ℕ) → from + count ≡ end
      → key count (get_or l (end - 3) 0) (get_or l (end - 2) 0) (get_or l (end - 1) 0) ≡ list_key (take count (drop from l))
  unfolding list_key
  long_key h end e =
      let third = part_entry (count - 3) (end - 3) (omega arith) (omega arith) in
      let second = part_entry (count - 2) (end - 2) (omega arith) (omega arith) in
      let last = part_entry (count - 1) (end - 1) (omega arith) (omega arith) in
      rw part_length (simp (le-ltb count 3 h) (rw (third, second, last)))
