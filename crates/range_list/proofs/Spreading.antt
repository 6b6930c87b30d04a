-- The extremes of ranges: with a range below all of them, or above all, none is misplaced still.
-- Assumes nothing.
use mathlib.Core.Path.{◌≡◌}
use mathlib.Core.Logic.{inl, inr}
use mathlib.Core.Bool.{Bool, true, false}
use mathlib.Core.List.{List}
use Prim.Native.Nat.{ℕ, ◌+◌, ◌≤◌, ◌<◌}
use native.Mathlib.Decide.{dec_lt}
use native.Mathlib.Omega.{arith}
use lib.IntN.{ℤ}
use lib.Signed.{lt_z}
use Rattle.index.specs.First.{first}
use Rattle.index.proofs.Search.{true_false, first_from, first_holds, first_inside, first_none}
use Rattle.sub_type.specs.Range.{starts_range, low, high}
use Rattle.range_list.specs.Misplaced.{is_backward, is_below, is_misplaced}
use Rattle.range_list.specs.Spread.{Right, Spread}
use Rattle.range_list.proofs.Below.{below_below, below_not_below, not_below_below}
use Rattle.range_list.proofs.Ranges.{right, no_range, kept}

-- what holds of each token from `from` on before one, and of that one
pub more : (P : ℕ → Type 0) (from token : ℕ) → ((i : ℕ) → from ≤ i → i < token → P i) → P token → (i : ℕ) → from ≤ i → i < token + 1 → P i
more P from token each own i l h = go (dec_lt i token)
  where
    go : Dec (i < token) → P i
    go (yes before) = each i l before
    go (no here) = let same : i ≡ token = omega arith in rw same own

module _ (cs vs : List ℕ) (from : ℕ) where
  -- what is said of the lows and highs of ranges
  abbrev Above : ℤ → ℕ → Type 0
  Above z i = starts_range cs i ≡ true → lt_z z (low cs vs i) ≡ true

  abbrev Under : ℤ → ℕ → Type 0
  Under z i = starts_range cs i ≡ true → lt_z (high cs vs i) z ≡ true

  abbrev Kept : ℕ → Type 0
  Kept i = is_misplaced cs vs from i ≡ false

  later : {token i : ℕ} → Right cs vs from token i → Right cs vs from (token + 1) i
  later r = record { inside = (r.inside.0, omega (arith, r.inside.1)); starts = r.starts; forward = r.forward }

  -- one range alone
  pub spread_start : starts_range cs from ≡ true → is_backward cs vs from ≡ false → Spread cs vs from (from + 1) from from
  spread_start s f = record {
    first = record { inside = (omega arith, omega arith); starts = s; forward = f };
    last = record { inside = (omega arith, omega arith); starts = s; forward = f };
    under = λ z p. more (Above z) from from (λ i l h. absurd (omega arith)) (λ t. p);
    over = λ z p. more (Under z) from from (λ i l h. absurd (omega arith)) (λ t. p);
    kept = more Kept from from (λ i l h. absurd (omega arith)) (kept cs vs from from (omega arith) f (λ j l h. absurd (omega arith)));
  }

  module _ (token lowest highest : ℕ) (w : Spread cs vs from token lowest highest) where
    -- no range starts there
    pub spread_skip : starts_range cs token ≡ false → Spread cs vs from (token + 1) lowest highest
    spread_skip f = record {
      first = later w.first;
      last = later w.last;
      under = λ z p. more (Above z) from token (w.under z p) (λ t. absurd (true_false t f));
      over = λ z p. more (Under z) from token (w.over z p) (λ t. absurd (true_false t f));
      kept = more Kept from token w.kept (no_range cs vs from token f);
    }

    module _ (s : starts_range cs token ≡ true) (f : is_backward cs vs token ≡ false) where
      own : Right cs vs from (token + 1) token
      own = record { inside = (omega (arith, w.first.inside.0, w.first.inside.1), omega arith); starts = s; forward = f }

      -- the range there lies below all
      pub spread_below : is_below cs vs token lowest ≡ true → Spread cs vs from (token + 1) token highest
      unfolding is_below
      spread_below p =
          let low-right = right cs vs lowest w.first.forward in
          let own-right = right cs vs token f in
          record {
            first = own;
            last = later w.last;
            under = λ z q. more (Above z) from token (w.under z (below_below z (high cs vs token) (low cs vs lowest) (below_not_below z (low cs vs token) (high cs vs token) q own-right) p)) (λ t. q);
            over = λ z q.
                more (Under z) from token (w.over z q)
                (λ t.
                below_below (high cs vs token) (low cs vs lowest) z p
                (not_below_below (low cs vs lowest) (high cs vs lowest) z low-right
                (w.over z q lowest w.first.inside.0 w.first.inside.1 w.first.starts)));
            kept = more Kept from token w.kept
                (kept cs vs from token own.inside.0 f (λ j l h t. inr (w.under (high cs vs token) p j l h t)));
          }

      -- it lies above all
      pub spread_above : is_below cs vs highest token ≡ true → Spread cs vs from (token + 1) lowest token
      unfolding is_below
      spread_above p =
          let high-right = right cs vs highest w.last.forward in
          let own-right = right cs vs token f in
          record {
            first = later w.first;
            last = own;
            under = λ z q.
                more (Above z) from token (w.under z q)
                (λ t.
                below_below z (high cs vs highest) (low cs vs token)
                (below_not_below z (low cs vs highest) (high cs vs highest)
                (w.under z q highest w.last.inside.0 w.last.inside.1 w.last.starts) high-right) p);
            over = λ z q. more (Under z) from token (w.over z (below_below (high cs vs highest) (low cs vs token) z p (not_below_below (low cs vs token) (high cs vs token) z own-right q))) (λ t. q);
            kept = more Kept from token w.kept
                (kept cs vs from token own.inside.0 f (λ j l h t. inl (w.over (low cs vs token) p j l h t)));
          }

-- a search has not passed its hit where nothing before was one
pub not_passed : (test : ℕ → Bool) (from to r : ℕ) → from ≤ r → r ≤ to → ((i : ℕ) → from ≤ i → i < r → test i ≡ false) → r ≤ first test from to
not_passed test from to r l h none = go (dec_lt (first test from to) r)
  where
    go : Dec (first test from to < r) → r ≤ first test from to
    go (yes m) =
        absurd (true_false (first_holds test from to (omega arith) (omega arith)) (none (first test from to) (first_from test from to) m))
    go (no m) = omega arith

-- and at its end it has its answer
pub at_end : (test : ℕ → Bool) (from to r : ℕ) → from ≤ r → r ≤ first test from to → to ≤ r → r ≡ first test from to
at_end test from to r l h e = go (dec_lt to from)
  where
    go : Dec (to < from) → r ≡ first test from to
    go (yes m) = omega (arith, first_none test from to (omega arith))
    go (no m) = omega (arith, first_inside test from to (omega arith))
