-- Which place is the first that is not inside a character. Assumes nothing.
use Prim.Native.Nat.{ℕ, ◌+◌, ◌≤◌, ◌<◌}
use mathlib.Core.Path.{◌≡◌, ◌∙◌, sym, ap}
use mathlib.Core.Bool.{true, false}
use mathlib.Core.List.{List}
use native.Mathlib.Decide.{dec_lt}
use native.Mathlib.Omega.{arith}
use Rattle.position.specs.Margin.{is_inside}
use Rattle.position.specs.Window.{first_start}

module _ (text : List ℕ) (k : ℕ) where
  -- the places from k on, up to, not including, i are inside
  abbrev InsideUpTo : ℕ → Type 0
  InsideUpTo i = (j : ℕ) → k ≤ j → j < i → is_inside text j ≡ true

  first : is_inside text k ≡ false → first_start text k ≡ k
  unfolding first_start
  first e = simp e

  second : is_inside text k ≡ true → is_inside text (k + 1) ≡ false → first_start text k ≡ k + 1
  unfolding first_start
  second d e = simp (d, e)

  third : is_inside text k ≡ true → is_inside text (k + 1) ≡ true → is_inside text (k + 2) ≡ false → first_start text k ≡ k + 2
  unfolding first_start
  third d e f = simp (d, e, f)

  pub all_inside : InsideUpTo (k + 3) → k + 3 ≡ first_start text k
  unfolding first_start
  all_inside before = simp (before k (omega arith) (omega arith), before (k + 1) (omega arith) (omega arith), before (k + 2) (omega arith) (omega arith))

  pub first_outside : (i : ℕ) → InsideUpTo i → k ≤ i → i < k + 3 → is_inside text i ≡ false → i ≡ first_start text k
  first_outside i before low high here = go (dec_lt k i) (dec_lt (k + 1) i)
    where
      at : (j : ℕ) → i ≡ j → is_inside text j ≡ false
      at j e = sym (ap (is_inside text) e) ∙ here

      go : Dec (k < i) → Dec (k + 1 < i) → i ≡ first_start text k
      go (no h) _ = let e : i ≡ k = omega arith in e ∙ sym (first (at k e))
      go (yes h) (no g) =
          let e : i ≡ k + 1 = omega arith in
          e ∙ sym (second (before k (omega arith) (omega arith)) (at (k + 1) e))
      go (yes h) (yes g) =
          let e : i ≡ k + 2 = omega arith in
          e ∙ sym (third (before k (omega arith) (omega arith)) (before (k + 1) (omega arith) (omega arith)) (at (k + 2) e))
