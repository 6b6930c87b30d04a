-- Ranges against each other: when one that is right lies below another, and when it is misplaced.
-- Assumes nothing.
use mathlib.Core.Path.{◌≡◌, refl}
use mathlib.Core.Logic.{◌⊎◌, inl, inr}
use mathlib.Core.Bool.{Bool, true, false, not, ◌&&◌, ◌||◌}
use mathlib.Core.List.{List}
use Prim.Native.Nat.{ℕ, ◌≤◌, ◌<◌}
use lib.IntN.{ℤ}
use lib.Signed.{lt_z}
use Rattle.index.specs.First.{any}
use Rattle.index.proofs.Search.{true_false, answers, any_at, none_any}
use Rattle.sub_type.specs.Range.{starts_range, is_pair, low, high}
use Rattle.range_list.specs.Misplaced.{is_backward, is_below, shares, is_sharing, is_misplaced}
use Rattle.range_list.proofs.Below.{below_below, not_below_below, not_both, not_itself, between}

-- what tests say
second_fails : (a b : Bool) → a ≡ true → (a && not b) ≡ false → b ≡ true
second_fails true true e f = refl
second_fails true false e f = absurd (true_false refl f)
second_fails false b e f = absurd (true_false e refl)

and_none : (a : Bool) → (a && false) ≡ false
and_none true = refl
and_none false = refl

all_fail : (p q r s : Bool) → (not p && not q && not r && not s) ≡ true → (p ≡ false) × (q ≡ false) × (r ≡ false) × (s ≡ false)
all_fail true q r s e = absurd (true_false e refl)
all_fail false true r s e = absurd (true_false e refl)
all_fail false false true s e = absurd (true_false e refl)
all_fail false false false true e = absurd (true_false e refl)
all_fail false false false false e = (refl, refl, refl, refl)

none_shared : (p q r s : Bool) → (r ≡ true) ⊎ (s ≡ true) → (not p && not q && not r && not s) ≡ false
none_shared true q r s e = refl
none_shared false true r s e = refl
none_shared false false true s e = refl
none_shared false false false true e = refl
none_shared false false false false (inl e) = absurd (true_false e refl)
none_shared false false false false (inr e) = absurd (true_false e refl)

module _ (cs vs : List ℕ) where
  -- a range whose pair is not wrong does not lie below itself
  pub right : (i : ℕ) → is_backward cs vs i ≡ false → is_below cs vs i i ≡ false
  unfolding is_backward is_below
  right i f =
      answers (is_pair cs i)
      (λ is. not_both (low cs vs i) (high cs vs i) (second_fails (is_pair cs i) (lt_z (low cs vs i) (high cs vs i)) is f))
      (λ no. rw no (not_itself (low cs vs i)))

  -- one below another that is right, and that below a third
  pub through : (i j k : ℕ) → is_below cs vs i j ≡ true → is_below cs vs j j ≡ false → is_below cs vs j k ≡ true → is_below cs vs i k ≡ true
  unfolding is_below
  through i j k p r q =
      below_below (high cs vs i) (low cs vs j) (low cs vs k) p (not_below_below (low cs vs j) (high cs vs j) (low cs vs k) r q)

  -- ranges apart share nothing
  pub apart : (i j : ℕ) → (is_below cs vs i j ≡ true) ⊎ (is_below cs vs j i ≡ true) → shares cs vs i j ≡ false
  unfolding shares
  apart i j e = none_shared (is_below cs vs i i) (is_below cs vs j j) (is_below cs vs i j) (is_below cs vs j i) e

  -- a number lies in range i
  abbrev pub Lies : ℕ → ℤ → Type 0
  Lies i z = (lt_z z (low cs vs i) ≡ false) × (lt_z (high cs vs i) z ≡ false)

  -- ranges share a number exactly where there is one that lies in both: the larger of their lows does
  pub common : (i j : ℕ) → shares cs vs i j ≡ true → (z : ℤ) × Lies i z × Lies j z
  unfolding shares is_below
  common i j e =
      let f = all_fail (is_below cs vs i i) (is_below cs vs j j) (is_below cs vs i j) (is_below cs vs j i) e in
      answers (lt_z (low cs vs i) (low cs vs j))
      (λ t. (low cs vs j, (not_both (low cs vs i) (low cs vs j) t, f.2), (not_itself (low cs vs j), f.1)))
      (λ n. (low cs vs i, (not_itself (low cs vs i), f.0), (n, f.3)))

  pub sharing : (i j : ℕ) (z : ℤ) → Lies i z → Lies j z → shares cs vs i j ≡ true
  unfolding shares is_below
  sharing i j z a b =
      rw (
        between (high cs vs i) z (low cs vs i) a.1 a.0,
        between (high cs vs j) z (low cs vs j) b.1 b.0,
        between (high cs vs i) z (low cs vs j) a.1 b.0,
        between (high cs vs j) z (low cs vs i) b.1 a.0,
      )

  module _ (from i : ℕ) where
    pub no_range : starts_range cs i ≡ false → is_misplaced cs vs from i ≡ false
    unfolding is_misplaced
    no_range f = rw f

    pub wrong_pair : starts_range cs i ≡ true → is_backward cs vs i ≡ true → is_misplaced cs vs from i ≡ true
    unfolding is_misplaced
    wrong_pair s e = rw (s, e)

    -- it shares a number with an earlier one: none of the four lies below another
    pub shared : starts_range cs i ≡ true → (j : ℕ) → from ≤ j → j < i → starts_range cs j ≡ true → is_below cs vs j j ≡ false
        → is_below cs vs i i ≡ false → is_below cs vs j i ≡ false → is_below cs vs i j ≡ false → is_misplaced cs vs from i ≡ true
    unfolding is_misplaced shares
    shared s j l h t p q r u =
        let some : any (is_sharing cs vs i) from i ≡ true = any_at (is_sharing cs vs i) from i j l h (rw (t, p, q, r, u)) in
        rw (s, some) (or_some (is_backward cs vs i))
      where
        or_some : (a : Bool) → (a || true) ≡ true
        or_some true = refl
        or_some false = refl

    -- it is right, and apart from each earlier one
    pub kept : from ≤ i → is_backward cs vs i ≡ false
        → ((j : ℕ) → from ≤ j → j < i → starts_range cs j ≡ true → (is_below cs vs j i ≡ true) ⊎ (is_below cs vs i j ≡ true))
        → is_misplaced cs vs from i ≡ false
    unfolding is_misplaced
    kept l f each =
        let none : any (is_sharing cs vs i) from i ≡ false =
        none_any (is_sharing cs vs i) from i l
        (λ j m h. answers (starts_range cs j) (λ s. rw s (apart j i (each j m h s))) (λ n. rw n)) in
        rw (f, none) (and_none (starts_range cs i))
