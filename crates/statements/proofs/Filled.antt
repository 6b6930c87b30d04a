-- A buffer that is filled: its working part, and the words beyond it.
-- Assumes nothing.
use mathlib.Core.Path.{◌≡◌, ap, ◌∙◌}
use mathlib.Core.List.{List, ◌++◌}
use Prim.Native.Nat.{ℕ, ◌-◌, ◌≤◌}
use native.Mathlib.Omega.{arith}
use lib.ListN.{length, take, drop, length-append, length-replicate}
use lib.Seq.{take_at, drop_at}
use Rattle.reader.specs.Buffers.{zeros, filled}

module _ (size : ℕ) (words before : List ℕ) (fits : length words ≤ size) where
  -- the working part is as long as it was
  part_long : length (words ++ zeros (size - length words)) ≡ size
  part_long = omega (arith, length-append words (zeros (size - length words)), length-replicate {A = ℕ} (size - length words) 0)

  -- the words beyond it are as they were
  pub filled_beyond : drop size (filled size words before) ≡ drop size before
  filled_beyond = drop_at (words ++ zeros (size - length words)) (drop size before) size part_long

  -- its words after those that fill it are 0
  pub filled_unused : (n : ℕ) → length words ≡ n → drop n (take size (filled size words before)) ≡ zeros (size - n)
  filled_unused n long =
      ap (drop n) (take_at (words ++ zeros (size - length words)) (drop size before) size part_long)
      ∙ drop_at words (zeros (size - length words)) n long
      ∙ ap (λ (k : ℕ). zeros (size - k)) long
