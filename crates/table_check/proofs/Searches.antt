-- The first and the second of a search's hits, by two searches.
-- Assumes nothing.
use mathlib.Core.Path.{◌≡◌, refl, sym, ap, ◌∙◌}
use mathlib.Core.Bool.{Bool}
use mathlib.Core.List.{List, [], ◌∷◌}
use Prim.Native.Nat.{ℕ, suc, ◌+◌, ◌≤◌, ◌<◌}
use native.Mathlib.Omega.{arith}
use native.Mathlib.Numerals.{add-one}
use lib.ListN.{length, get_or}
use Rattle.index.specs.First.{first, hits}
use Rattle.index.proofs.Hits.{first_hit_is, next_hit, hit_inside}

module _ (test : ℕ → Bool) (b r : ℕ) (is : r ≡ first test 0 b) (default : ℕ) where
  -- no first: there is none
  none_of : (l : List ℕ) → get_or l 0 b ≡ r → ((k : ℕ) → k < length l → get_or l k 0 < b) → b ≤ r → get_or l 0 default ≡ default
  none_of [] e below h = refl
  none_of (x ∷ l) e below h = absurd (omega (arith, e, below 0 (omega arith)))

  one_of : (l : List ℕ) → get_or l 0 b ≡ r → r < b → get_or l 0 default ≡ r
  one_of [] e h = absurd (omega (arith, e))
  one_of (x ∷ l) e h = e

  inside : (k : ℕ) → k < length (hits test 0 b) → get_or (hits test 0 b) k 0 < b
  inside k h = (hit_inside test 0 b k h).1

  found : get_or (hits test 0 b) 0 b ≡ r
  found = first_hit_is test 0 b (omega arith) ∙ sym is

  pub first_none_of : b ≤ r → default ≡ get_or (hits test 0 b) 0 default
  first_none_of h = sym (none_of (hits test 0 b) found inside h)

  pub first_one_of : r < b → r ≡ get_or (hits test 0 b) 0 default
  first_one_of h = sym (one_of (hits test 0 b) found h)

  -- and a second
  second_none : (l : List ℕ) → get_or l 0 b ≡ r → ((k : ℕ) → k < length l → get_or l k 0 < b) → b ≤ r → get_or l 1 (get_or l 0 default) ≡ default
  second_none [] e below h = refl
  second_none (x ∷ l) e below h = absurd (omega (arith, e, below 0 (omega arith)))

  pub no_row_of : b ≤ r → default ≡ get_or (hits test 0 b) 1 (get_or (hits test 0 b) 0 default)
  no_row_of h = sym (second_none (hits test 0 b) found inside h)

  module _ (h : r < b) (s : ℕ) (next : s ≡ first test (r + 1) b) where
    some : (l : List ℕ) → get_or l 0 b ≡ r → (0 < length l) × (get_or l 0 0 ≡ r)
    some [] e = absurd (omega (arith, e))
    some (x ∷ l) e = (omega arith, e)

    follows : get_or (hits test 0 b) 1 b ≡ s
    follows =
        let first_one = some (hits test 0 b) found in
        next_hit test 0 b 0 (omega arith) first_one.0 ∙ ap (λ (x : ℕ). first test (suc x) b) first_one.1
        ∙ ap (λ (x : ℕ). first test x b) (sym (add-one r)) ∙ sym next

    alone : (l : List ℕ) → get_or l 0 b ≡ r → get_or l 1 b ≡ s → ((k : ℕ) → k < length l → get_or l k 0 < b) → b ≤ s → get_or l 1 (get_or l 0 default) ≡ r
    alone [] e f below m = absurd (omega (arith, e))
    alone (x ∷ []) e f below m = e
    alone (x ∷ (y ∷ l)) e f below m = absurd (omega (arith, f, below 1 (omega arith)))

    two : (l : List ℕ) → get_or l 0 b ≡ r → get_or l 1 b ≡ s → s < b → get_or l 1 (get_or l 0 default) ≡ s
    two [] e f m = absurd (omega (arith, e))
    two (x ∷ []) e f m = absurd (omega (arith, f))
    two (x ∷ (y ∷ l)) e f m = f

    pub one_row_of : b ≤ s → r ≡ get_or (hits test 0 b) 1 (get_or (hits test 0 b) 0 default)
    one_row_of m = sym (alone (hits test 0 b) found follows inside m)

    pub two_rows_of : s < b → s ≡ get_or (hits test 0 b) 1 (get_or (hits test 0 b) 0 default)
    two_rows_of m = sym (two (hits test 0 b) found follows m)
