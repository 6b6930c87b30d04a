-- The numbers of built-in symbols: none past the last symbol, and never more than eight.
-- Assumes nothing.
use mathlib.Core.Path.{◌≡◌, refl, ap}
use mathlib.Core.Bool.{Bool, true, false}
use mathlib.Core.List.{[]}
use Prim.Native.Nat.{ℕ, ◌≤◌, ◌<◌}
use native.Mathlib.Decide.{dec_lt}
use native.Mathlib.Omega.{arith}
use lib.Dec.{T, leb}
use borrow.Author.Tests.{leb-true}
use lib.ListN.{length, get_or-eq_default}
use Rattle.index.proofs.Tested.{passes, tested}
use Rattle.symbol.specs.Symbol.{Symbol, symbols, symbol, of_smi, of_tc, below_internet, internet, no_symbol, what_is, numbers, numbers_of, symbol_count}

-- no built-in name has more than 8 numbers
is_short : ℕ → Symbol → Bool
is_short k s = leb (length (numbers s.what)) 8

all_short : T (passes is_short 0 symbols)
unfolding is_short symbols of_smi of_tc below_internet internet numbers
all_short = tt

-- there are as many symbols as are counted
all_symbols : length symbols ≡ symbol_count
unfolding symbols
all_symbols = refl

-- and past the last one there are no numbers
pub past_symbols : (k : ℕ) → symbol_count ≤ k → numbers_of k ≡ []
unfolding numbers_of what_is symbol no_symbol numbers
past_symbols k h = ap (λ (s : Symbol). numbers s.what) (get_or-eq_default symbols no_symbol {n = k} (omega (arith, all_symbols)))

pub symbol_short : (k : ℕ) → length (numbers_of k) ≤ 8
unfolding numbers_of what_is symbol is_short
symbol_short k = go (dec_lt k (length symbols))
  where
    held : (b : Bool) → T b → b ≡ true
    held true t = refl
    held false t = absurd t

    go : Dec (k < length symbols) → length (numbers_of k) ≤ 8
    go (yes h) = leb-true _ _ (held _ (tested is_short no_symbol symbols all_short k h))
    go (no h) = omega (arith, ap length (past_symbols k (omega (arith, all_symbols))))
