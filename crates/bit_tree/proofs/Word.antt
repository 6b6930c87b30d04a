-- The laws of words: the byte that holds a bit of a name, and the word of an entry that gets a child.
-- Assumes nothing.
use mathlib.Core.Path.{◌≡◌, refl, sym, ap, ◌∙◌}
use mathlib.Core.Bool.{Bool, true, false, cond}
use mathlib.Core.List.{List}
use Prim.Native.Nat.{ℕ, ◌+◌, ◌-◌, ◌/◌, ◌%◌, ◌≤◌, ◌<◌}
use native.Mathlib.Decide.{ℕ_discrete}
use native.Mathlib.Omega.{arith}
use borrow.Author.Tests.{lt-ltb, le-ltb}
use lib.ListN.{length, get_or, set, drop, length-drop, length-set}
use lib.Seq.{get_or-drop, get_or-take, length-take-le, get_or-set_same, get_or-set_other}
use Rattle.lexicon.specs.Word.{between, Within}
use Rattle.bit_tree.specs.Bit.{bit, bit_byte, name_bit}
use Rattle.bit_tree.specs.Tree.{child, only_child, Hung}

-- ---- the bits of a name

module _ (text : List ℕ) (start end d : ℕ) (w : Within text start end) where
  part_length : length (between text start end) ≡ end - start
  part_length = length-take-le (end - start) (drop start text) (omega (arith, length-drop start text, w.inside))

  part_byte : (i k : ℕ) → i < end - start → start + i ≡ k → get_or (between text start end) i 0 ≡ get_or text k 0
  part_byte i k h e = get_or-take (end - start) (drop start text) i 0 h ∙ get_or-drop start text i 0 ∙ ap (λ (n : ℕ). get_or text n 0) e

  pub bit_inside : d / 8 < end - start → (i : ℕ) → i ≡ bit_byte (end - start) d → i < end - start
      → (b : Bool) → b ≡ bit (get_or text (start + i) 0) (d % 8) → b ≡ name_bit (between text start end) d
  bit_inside h i at below b is =
      is ∙ rw part_length (simp (lt-ltb (d / 8) (end - start) h) (rw (← at, part_byte i (start + i) below refl)))

  pub bit_outside : end - start ≤ d / 8 → false ≡ name_bit (between text start end) d
  bit_outside h = rw part_length (simp (le-ltb (d / 8) (end - start) h))

-- ---- the word of an entry that gets a child

-- the child on a side, by the word
abbrev pub half : ℕ → Bool → ℕ
half word side = cond side (word / 65536) (word % 65536)

-- the word holds the new child, and the other as it was
with_own : (word k : ℕ) (side : Bool) → half word side ≡ 0 → k < 65536 → half (word + only_child side k) side ≡ k
with_own word k true e h = omega arith
with_own word k false e h = omega arith

with_other : (word k : ℕ) (side s : Bool) → half word side ≡ 0 → k < 65536 → (s ≡ side → ⊥) → half (word + only_child side k) s ≡ half word s
with_other word k true true e h p = absurd (p refl)
with_other word k true false e h p = omega arith
with_other word k false true e h p = omega arith
with_other word k false false e h p = absurd (p refl)

-- and it fits
pub word_fits : (word k : ℕ) (side : Bool) → half word side ≡ 0 → word < 4294967296 → k < 65536 → word + only_child side k < 4294967296
word_fits word k true e h l = omega arith
word_fits word k false e h l = omega arith

-- the word of no children
pub half_none : (side : Bool) → half 0 side ≡ 0
half_none true = refl
half_none false = refl

-- entry k, whose word is cleared, is the child of entry j
module _ (links : List ℕ) (j k : ℕ) (side : Bool) (order : j < k) (room : k < length links) where
  pub cleared_word : get_or (set links k 0) j 0 ≡ get_or links j 0
  cleared_word = get_or-set_other links k j 0 0 (λ e. omega arith)

  pub hung : child links j side ≡ 0 → k < 65536 → (word : ℕ) → word ≡ get_or links j 0 + only_child side k → Hung j side k links (set (set links k 0) j word)
  hung none few word is = record {
    own = ap (λ (w : ℕ). half w side) own ∙ with_own (get_or links j 0) k side none few;
    none =
        λ s. ap (λ (w : ℕ). half w s)
        (get_or-set_other (set links k 0) j k word 0 (λ e. omega arith) ∙ get_or-set_same links k 0 0 room) ∙ half_none s;
    other = λ i s p q. other i s p q (ℕ_discrete i j);
  }
    where
      own : get_or (set (set links k 0) j word) j 0 ≡ get_or links j 0 + only_child side k
      own = get_or-set_same (set links k 0) j word 0 (omega (arith, length-set links k 0)) ∙ is

      other : (i : ℕ) (s : Bool) → (i ≡ k → ⊥) → ((i ≡ j) × (s ≡ side) → ⊥) → Dec (i ≡ j) → child (set (set links k 0) j word) i s ≡ child links i s
      other i s p q (yes same) =
          ap (λ (n : ℕ). half (get_or (set (set links k 0) j word) n 0) s) same ∙ ap (λ (w : ℕ). half w s) own
          ∙ with_other (get_or links j 0) k side s none few (λ e. q (same, e)) ∙ ap (λ (n : ℕ). half (get_or links n 0) s) (sym same)
      other i s p q (no apart) =
          ap (λ (w : ℕ). half w s) (get_or-set_other (set links k 0) j i word 0 apart ∙ get_or-set_other links k i 0 0 p)
