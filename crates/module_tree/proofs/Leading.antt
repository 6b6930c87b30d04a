-- Searches among the tokens of a part, by the list of their classes.
-- Assumes nothing.
use mathlib.Core.Path.{◌≡◌, refl, sym, ap, ◌∙◌}
use mathlib.Core.Bool.{Bool, true, false, cond, not}
use mathlib.Core.List.{List, [], ◌∷◌, ◌++◌}
use Prim.Native.Nat.{ℕ, suc, ◌+◌, ◌≤◌, ◌<◌}
use native.Mathlib.Nat.{add-zero}
use native.Mathlib.Omega.{arith}
use lib.ListN.{length, get_or, drop, length-append, length-drop, get_or-append}
use lib.Seq.{get_or-drop, get_or-append-add}
use Rattle.index.specs.First.{first}
use Rattle.index.proofs.Search.{first_hit, first_miss, first_none}
use Rattle.definition.specs.Landmark.{class_at}
use Rattle.module_tree.specs.Module.{leading}

-- what f says of the tokens from d on is this list
abbrev pub Along : (ℕ → ℕ) → ℕ → List ℕ → Type 0
Along f d xs = (i : ℕ) → i < length xs → f (d + i) ≡ get_or xs i 0

module _ (f : ℕ → ℕ) where
  pub along_first : (d x : ℕ) (xs : List ℕ) → Along f d (x ∷ xs) → f d ≡ x
  along_first d x xs st = ap f (sym (add-zero d)) ∙ st 0 (omega arith)

  pub along_rest : (d x : ℕ) (xs : List ℕ) → Along f d (x ∷ xs) → Along f (suc d) xs
  along_rest d x xs st i h = let same : suc d + i ≡ d + suc i = omega arith in rw same (st (suc i) (omega arith))

  pub along_left : (d : ℕ) (xs ys : List ℕ) → Along f d (xs ++ ys) → Along f d xs
  along_left d xs ys st i h = st i (omega (arith, length-append xs ys)) ∙ get_or-append xs ys 0 i h

  pub along_right : (d : ℕ) (xs ys : List ℕ) → Along f d (xs ++ ys) → Along f (d + length xs) ys
  along_right d xs ys st i h =
      let same : d + length xs + i ≡ d + (length xs + i) = omega arith in
      rw same (st (length xs + i) (omega (arith, length-append xs ys)) ∙ get_or-append-add xs ys i 0)

  pub along_drop : (d k : ℕ) (xs : List ℕ) → Along f d xs → Along f (d + k) (drop k xs)
  along_drop d k xs st i h =
      let same : d + k + i ≡ d + (k + i) = omega arith in
      rw same (st (k + i) (omega (arith, length-drop k xs)) ∙ sym (get_or-drop k xs i 0))

-- the tokens from d on have these classes
abbrev pub Stands : List ℕ → ℕ → List ℕ → Type 0
Stands cs d xs = Along (class_at cs) d xs

pub stands_all : (cs : List ℕ) → Stands cs 0 cs
stands_all cs i h = ap (class_at cs) (omega arith)

-- the first token whose class passes a test
pub first_leading : (test : ℕ → Bool) (cs xs : List ℕ) (d : ℕ) → Stands cs d xs
    → first (λ (i : ℕ). test (class_at cs i)) d (d + length xs) ≡ d + leading (λ (c : ℕ). not (test c)) xs
first_leading test cs [] d st = first_none (λ (i : ℕ). test (class_at cs i)) d (d + 0) (omega arith) ∙ omega arith
first_leading test cs (x ∷ xs) d st = go (test x) refl (first_leading test cs xs (suc d) (along_rest (class_at cs) d x xs st))
  where
    here : test (class_at cs d) ≡ test x
    here = ap test (along_first (class_at cs) d x xs st)

    go : (b : Bool) → test x ≡ b
        → first (λ (i : ℕ). test (class_at cs i)) (suc d) (suc d + length xs) ≡ suc d + leading (λ (c : ℕ). not (test c)) xs
        → first (λ (i : ℕ). test (class_at cs i)) d (d + suc (length xs)) ≡ d + cond (not b) (suc (leading (λ (c : ℕ). not (test c)) xs)) 0
    go true e ih = first_hit (λ (i : ℕ). test (class_at cs i)) d (d + suc (length xs)) (omega arith) (here ∙ e) ∙ omega arith
    go false e ih =
        let same : d + suc (length xs) ≡ suc d + length xs = omega arith in
        first_miss (λ (i : ℕ). test (class_at cs i)) d (d + suc (length xs)) (omega arith) (here ∙ e)
        ∙ ap (first (λ (i : ℕ). test (class_at cs i)) (suc d)) same ∙ ih ∙ omega arith

-- no more lead than there are
pub leading_few : (test : ℕ → Bool) (xs : List ℕ) → leading test xs ≤ length xs
leading_few test [] = omega arith
leading_few test (x ∷ xs) = go (test x) (leading_few test xs)
  where
    go : (b : Bool) → leading test xs ≤ length xs → cond b (suc (leading test xs)) 0 ≤ suc (length xs)
    go true h = omega arith
    go false h = omega arith
