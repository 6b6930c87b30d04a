-- A table's rule: a test that is computed once over a list says that it passes at every index.
-- Assumes nothing.
use mathlib.Core.Path.{◌∙◌, subst, sym}
use mathlib.Core.Bool.{Bool, true, false, ◌&&◌}
use mathlib.Core.List.{List, [], ◌∷◌}
use Prim.Native.Nat.{ℕ, zero, suc, ◌+◌, ◌<◌}
use native.Mathlib.Nat.{add-zero, zero-add, add-suc, suc-add, le_of_suc-le-suc, not-suc-le-zero}
use lib.Dec.{T}
use lib.ListN.{length, get_or}

-- what both of two tests passed says of each
pub and_left : (a b : Bool) → T (a && b) → T a
and_left true b h = tt
and_left false b h = h

pub and_right : (a b : Bool) → T (a && b) → T b
and_right true b h = h
and_right false b h = absurd h

module _ {A : Type 0} (test : ℕ → A → Bool) where
  -- the test passes at each element and its index, counted from i
  abbrev pub passes : ℕ → List A → Bool
  passes i [] = true
  passes i (x ∷ xs) = test i x && passes (suc i) xs

  counted : (d : A) (i : ℕ) (xs : List A) (k : ℕ) → T (passes i xs) → k < length xs → T (test (i + k) (get_or xs k d))
  counted d i [] k t h = absurd (not-suc-le-zero h)
  counted d i (x ∷ xs) zero t h = rw add-zero (and_left (test i x) (passes (suc i) xs) t)
  counted d i (x ∷ xs) (suc k) t h =
      subst (λ (n : ℕ). T (test n (get_or xs k d))) (suc-add i k ∙ sym (add-suc i k))
      (counted d (suc i) xs k (and_right (test i x) (passes (suc i) xs) t) (le_of_suc-le-suc h))

  -- what the computed test says of the element at k
  pub tested : (d : A) (xs : List A) → T (passes 0 xs) → (k : ℕ) → k < length xs → T (test k (get_or xs k d))
  tested d xs t k h = rw (zero-add k) at (counted d 0 xs k t h)
