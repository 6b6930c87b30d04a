-- The spelling of a token as a part of the text.
-- Assumes nothing.
use mathlib.Core.Path.{◌≡◌, sym, ◌∙◌}
use mathlib.Core.Bool.{cond}
use mathlib.Core.List.{List, []}
use Prim.Native.Nat.{ℕ, ◌-◌, ◌≤◌, ◌<◌}
use native.Mathlib.Decide.{dec_lt}
use native.Mathlib.Omega.{arith}
use borrow.Author.Tests.{lt-ltb, le-ltb}
use lib.Dec.{ltb}
use lib.ListN.{length, drop, length-drop}
use lib.Seq.{take_all}
use Rattle.lexicon.specs.Word.{between, Within}

-- the smaller of two numbers
abbrev pub smaller : ℕ → ℕ → ℕ
smaller a b = cond (ltb a b) a b

pub smaller_first : (a b : ℕ) → a < b → smaller a b ≡ a
smaller_first a b h = simp (lt-ltb a b h)

pub smaller_second : (a b : ℕ) → b ≤ a → smaller a b ≡ b
smaller_second a b h = simp (le-ltb a b h)

pub smaller_below : (a b : ℕ) → (smaller a b ≤ a) × (smaller a b ≤ b)
smaller_below a b = go (dec_lt a b)
  where
    go : Dec (a < b) → (smaller a b ≤ a) × (smaller a b ≤ b)
    go (yes h) = (omega (arith, smaller_first a b h), omega (arith, smaller_first a b h))
    go (no h) = (omega (arith, smaller_second a b (omega arith)), omega (arith, smaller_second a b (omega arith)))

-- a part that would reach past the text is what there is of it
module _ (text : List ℕ) (from to : ℕ) where
  ends : ℕ
  ends = smaller to (length text)

  pub part_within : Within text (smaller from (smaller to (length text))) (smaller to (length text))
  part_within = record { ordered = (smaller_below from (smaller to (length text))).1; inside = (smaller_below to (length text)).1 }

  -- nothing is taken where the part is empty, and no more than there is elsewhere
  none_taken : (a b : ℕ) → b ≤ a → between text a b ≡ []
  none_taken a b h = let n : b - a ≡ 0 = omega arith in rw n

  ended : (a : ℕ) → between text a (smaller to (length text)) ≡ between text a to
  ended a = go (dec_lt to (length text))
    where
      go : Dec (to < length text) → between text a (smaller to (length text)) ≡ between text a to
      go (yes h) = rw (smaller_first to (length text) h)
      go (no h) =
          rw (smaller_second to (length text) (omega arith))
          (take_all (length text - a) (drop a text) (omega (arith, length-drop a text))
          ∙ sym (take_all (to - a) (drop a text) (omega (arith, length-drop a text))))

  pub part_cut : between text (smaller from (smaller to (length text))) (smaller to (length text)) ≡ between text from to
  part_cut = go (dec_lt from (smaller to (length text)))
    where
      e : ℕ
      e = smaller to (length text)

      go : Dec (from < smaller to (length text)) → between text (smaller from (smaller to (length text))) (smaller to (length text)) ≡ between text from to
      go (yes h) = rw (smaller_first from (smaller to (length text)) h) (ended from)
      go (no h) =
          rw (smaller_second from (smaller to (length text)) (omega arith))
          (none_taken (smaller to (length text)) (smaller to (length text)) (omega arith)
          ∙ sym (none_taken from (smaller to (length text)) (omega arith)) ∙ ended from)
