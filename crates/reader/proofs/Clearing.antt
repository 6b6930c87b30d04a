-- Words that are cleared, and what is laid over them.
-- Assumes nothing.
use mathlib.Core.Path.{◌≡◌, sym, ap, ◌∙◌}
use mathlib.Core.List.{List, [], ◌++◌, append-nil}
use Prim.Native.Nat.{ℕ, ◌+◌, ◌-◌, ◌≤◌, ◌<◌}
use native.Mathlib.Omega.{arith}
use lib.ListN.{length, get_or, drop, length-drop, length-replicate, get_or-replicate}
use lib.Seq.{drop-length, get_or-drop, ext_get_or}
use Rattle.token.specs.Table.{overlaid}
use Rattle.overlay.specs.Writing.{Written}
use Rattle.reader.specs.Buffers.{zeros}

-- each of them is 0
pub zero_at : (n i : ℕ) → i < n → 0 ≡ get_or (zeros n) i 0
zero_at n i h = sym (get_or-replicate n i 0 0 h)

-- all words are laid over
pub all_cleared : (before after : List ℕ) (count : ℕ) → Written (zeros (length before)) count before after → after ≡ zeros (length before)
all_cleared before after count w =
    let long : length (zeros (length before)) ≡ length before = length-replicate (length before) 0 in
    w.held ∙ ap (λ (k : ℕ). zeros (length before) ++ drop k before) long ∙ ap (λ (l : List ℕ). zeros (length before) ++ l) (drop-length before) ∙ append-nil (zeros (length before))

-- what is dropped of zeros are zeros
zeros_left : (n k : ℕ) → k ≤ n → drop k (zeros n) ≡ zeros (n - k)
zeros_left n k h =
    ext_get_or 0 (drop k (zeros n)) (zeros (n - k)) long
    (λ i l. get_or-drop k (zeros n) i 0 ∙ get_or-replicate n (k + i) 0 0 (omega (arith, length-drop k (zeros n), length-replicate {A = ℕ} n 0)) ∙ sym (get_or-replicate (n - k) i 0 0 (omega (arith, long, length-replicate {A = ℕ} (n - k) 0))))
  where
    long : length (drop k (zeros n)) ≡ length (zeros (n - k))
    long = length-drop k (zeros n) ∙ ap (λ (m : ℕ). m - k) (length-replicate n 0) ∙ sym (length-replicate (n - k) 0)

-- words that are laid over zeros, and then zeros
pub laid_over_zeros : (words before after : List ℕ) (n : ℕ) → before ≡ zeros n → length words ≤ n → after ≡ overlaid words before → after ≡ words ++ zeros (n - length words)
laid_over_zeros words before after n is room laid =
    laid ∙ ap (overlaid words) is ∙ ap (λ (l : List ℕ). words ++ l) (zeros_left n (length words) room)

-- what is cleared, of a buffer as long as it was
pub cleared_again : (after : List ℕ) (long n : ℕ) → after ≡ zeros long → long ≡ n → after ≡ [] ++ zeros (n - 0)
cleared_again after long n is same = let all : long ≡ n - 0 = omega arith in is ∙ ap zeros all
