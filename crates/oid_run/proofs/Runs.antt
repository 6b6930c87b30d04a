-- The laws of runs of numbers: the tests of `specs/Run.antt` as equations, and how lengths and last numbers decide them.
-- Assumes nothing.
use mathlib.Core.Path.{◌≡◌, refl, sym, ap, ◌∙◌}
use mathlib.Core.Bool.{Bool, true, false, not}
use mathlib.Core.List.{List, [], ◌∷◌, ◌++◌}
use Prim.Native.Nat.{ℕ, suc, ◌+◌, ◌≤◌, ◌<◌}
use native.Mathlib.Omega.{arith}
use lib.Dec.{eqb}
use lib.ListN.{length, get_or, drop, length-append, length-drop}
use lib.Seq.{get_or-take, get_or-drop, length-take-le}
use borrow.Author.Tests.{eq-eqb, eqb-true, eqb-false, not-true, not-false}
use Rattle.lexicon.specs.Word.{same}
use Rattle.lexicon.proofs.Words.{same_equal, same_length, same_last, part_last}
use Rattle.oid_run.specs.Run.{run, is_below}

-- what the test says: the second is the first followed by some number
pub below_equal : (a b : List ℕ) → is_below a b ≡ true → (number : ℕ) × (b ≡ a ++ (number ∷ []))
unfolding is_below
below_equal a b e = (get_or b (length a) 0, sym (same_equal _ _ e))

-- ---- runs

module _ (numbers : List ℕ) (from count : ℕ) (h : from + count ≤ length numbers) where
  pub run_length : length (run numbers from count) ≡ count
  run_length = length-take-le count (drop from numbers) (omega (arith, length-drop from numbers))

  pub run_number : (k : ℕ) → k < count → get_or (run numbers from count) k 0 ≡ get_or numbers (from + k) 0
  run_number k l = rw (get_or-take, get_or-drop)

-- what the test that a count is one more than another says
module _ (m n : ℕ) {r : Bool} (is : r ≡ eqb n (m + 1)) where
  pub one_longer : not r ≡ false → n ≡ suc m
  one_longer e = omega (arith, eqb-true n (m + 1) (sym is ∙ not-false r e))

  pub not_one_longer : not r ≡ true → n ≡ suc m → ⊥
  not_one_longer e q = eqb-false n (m + 1) (sym is ∙ not-true r e) (omega arith)

-- any two runs
module _ (numbers : List ℕ) (i m j n : ℕ) (h : i + m ≤ length numbers) (l : j + n ≤ length numbers) where
  pub other_length : (m ≡ n → ⊥) → same (run numbers i m) (run numbers j n) ≡ false
  other_length e =
      same_length _ _ (λ q. e (sym (run_length numbers i m h) ∙ q ∙ run_length numbers j n l))

  -- one that is not longer by one number is not below
  pub not_below : (n ≡ suc m → ⊥) → is_below (run numbers i m) (run numbers j n) ≡ false
  unfolding is_below
  not_below e =
      same_length _ _ (λ q.
      e (omega (arith, run_length numbers i m h, run_length numbers j n l, length-append (run numbers i m) (get_or (run numbers j n) (length (run numbers i m)) 0 ∷ []), q)))

  -- one that is longer by one number is below, if the numbers before it agree
  pub any_number : n ≡ suc m → is_below (run numbers i m) (run numbers j n) ≡ same (run numbers i m) (run numbers j m)
  unfolding is_below
  any_number longer =
      let there : get_or (run numbers j n) (length (run numbers i m)) 0 ≡ get_or numbers (j + m) 0 =
      ap (λ (k : ℕ). get_or (run numbers j n) k 0) (run_length numbers i m h) ∙ run_number numbers j n l m (omega arith) in
      rw (there, part_last numbers j n m longer l) (same_last (run numbers i m) (run numbers j m) (get_or numbers (j + m) 0) _ ∙ simp (eq-eqb (get_or numbers (j + m) 0) (get_or numbers (j + m) 0) refl))
