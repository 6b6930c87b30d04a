-- The value of decimal digits, one digit at a time, and the value cut off above the largest number.
-- Assumes nothing.
use mathlib.Core.Path.{◌≡◌, refl, ap, ◌∙◌}
use mathlib.Core.Bool.{true, false}
use mathlib.Core.List.{List, [], ◌∷◌, ◌++◌}
use Prim.Native.Nat.{ℕ, suc, ◌+◌, ◌-◌, ◌*◌, ◌≤◌, ◌<◌}
use native.Mathlib.Omega.{arith}
use borrow.Author.Tests.{le-leb, lt-leb}
use lib.Dec.{leb}
use lib.ListN.{length, get_or, take, drop, length-drop}
use lib.Seq.{take-suc, get_or-drop}
use Rattle.piece.specs.Decimal.{too_large, capped, decimal_after, decimal}

decimal_snoc : (n : ℕ) (ds : List ℕ) (d : ℕ) → decimal_after n (ds ++ (d ∷ [])) ≡ 10 * decimal_after n ds + (d - 48)
unfolding decimal_after
decimal_snoc n [] d = refl
decimal_snoc n (x ∷ ds) d = decimal_snoc (10 * n + (x - 48)) ds d

-- the digits from `at` up to and with the one at i
decimal_more : (t : List ℕ) (at i : ℕ) → at ≤ i → i < length t
    → decimal (take (i + 1 - at) (drop at t)) ≡ 10 * decimal (take (i - at) (drop at t)) + (get_or t i 0 - 48)
decimal_more t at i h l =
    let k : i + 1 - at ≡ suc (i - at) = omega arith in
    let inside : i - at < length (drop at t) = omega (arith, length-drop at t) in
    let here : get_or (drop at t) (i - at) 0 ≡ get_or t i 0 =
    get_or-drop at t (i - at) 0 ∙ ap (λ (j : ℕ). get_or t j 0) (omega arith) in
    rw (k, take-suc (drop at t) (i - at) 0 inside, here)
    (decimal_snoc 0 (take (i - at) (drop at t)) (get_or t i 0))

-- the value cut off above the largest number, of no digit and of one digit more
pub capped_none : (t : List ℕ) (at : ℕ) → 0 ≡ capped (decimal (take (at - at) (drop at t)))
unfolding decimal_after
capped_none t at = let none : at - at ≡ 0 = omega arith in rw none

pub capped_more : (t : List ℕ) (at i : ℕ) {value next : ℕ} → at ≤ i → i < length t
    → value ≡ capped (decimal (take (i - at) (drop at t))) → next ≡ capped (10 * value + (get_or t i 0 - 48))
    → next ≡ capped (decimal (take (i + 1 - at) (drop at t)))
capped_more t at i h l e q = omega (arith, decimal_more t at i h l)

-- of the n digits from `at` to `end`, the value cut off is over a limit exactly if the whole value is
module _
    (t : List ℕ) (at n end value limit : ℕ)
    (ends : end ≡ at + n) (counts : value ≡ capped (decimal (take (end - at) (drop at t)))) (low : limit < too_large)
  where
    counted : value ≡ capped (decimal (take n (drop at t)))
    counted = let all : end - at ≡ n = omega arith in rw (← all) counts

    pub over_limit : limit < value → leb (decimal (take n (drop at t))) limit ≡ false
    over_limit h = lt-leb (decimal (take n (drop at t))) limit (omega (arith, counted))

    pub in_limit : value ≤ limit → leb (decimal (take n (drop at t))) limit ≡ true
    in_limit h = le-leb (decimal (take n (drop at t))) limit (omega (arith, counted))
