-- The laws of keys: each is one that a chain has, and the loop that reads a part of a text byte by byte.
-- Assumes nothing.
use mathlib.Core.Path.{◌≡◌}
use mathlib.Core.List.{List, [], ◌∷◌}
use Prim.Native.Nat.{ℕ, suc, ◌+◌, ◌-◌, ◌≤◌, ◌<◌}
use native.Mathlib.Numerals.{add-one}
use native.Mathlib.Omega.{arith}
use lib.ListN.{length, get_or}
use lib.Seq.{drop-cons}
use Rattle.lexicon.specs.Word.{between}
use Rattle.name_tree.specs.Key.{key_count, key_step, key_after, name_key}

key_after_few : (k : ℕ) (s : List ℕ) → k < key_count → key_after k s < key_count
unfolding key_after
key_after_few k [] h = h
key_after_few k (b ∷ bs) h = key_after_few (key_step k b) bs (omega arith)

pub key_few : (s : List ℕ) → name_key s < key_count
key_few s = key_after_few 0 s (omega arith)

-- the loop is at byte i of the part from start to end: the bytes that are left complete the key
module _ (text : List ℕ) (end : ℕ) (inside : end ≤ length text) where
  part_more : (i : ℕ) → i < end → between text i end ≡ get_or text i 0 ∷ between text (i + 1) end
  part_more i h =
      let n : end - i ≡ suc (end - suc i) = omega arith in
      rw (add-one i, n, drop-cons text i 0 (omega arith))

  pub key_more : (k i : ℕ) → i < end → key_after (key_step k (get_or text i 0)) (between text (i + 1) end) ≡ key_after k (between text i end)
  unfolding key_after
  key_more k i h = rw (part_more i h)

  pub key_end : (k i : ℕ) → end ≤ i → key_after k (between text i end) ≡ k
  unfolding key_after
  key_end k i h = let n : end - i ≡ 0 = omega arith in rw n
