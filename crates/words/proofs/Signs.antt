-- A number below the limit fits an i64 with either sign, and is read back as it is. Assumes nothing.
use Prim.Native.Nat.{ℕ, zero, suc, ◌<◌}
use mathlib.Core.Path.{◌≡◌, ◌∙◌, subst}
use native.Mathlib.Omega.{arith}
use lib.Dec.{lit<}
use lib.IntN.{pos, neg_ℤ, ◌-ℤ◌, +ℤ_idl}
use mir.Facts.{to_z-of_z}
use mir.Syntax.{w64}
use mir.Val.{SFits, to_z, of_z}
use Rattle.words.specs.Decimal.{limit, Small}
use Rattle.std.specs.Prelude.{Result, Ok}
use Rattle.words.specs.declared.number.NumberError.{NumberError}

pub small_number : (natural : Result ℕ NumberError) (n : ℕ) → natural ≡ Ok n → Small natural → n < limit
small_number natural n is small = subst Small is small

pub fits : (n : ℕ) → n < limit → SFits w64 (pos n)
fits n small = record { sfits = omega arith }

pub read_back : (n : ℕ) → n < limit → to_z w64 n ≡ pos n
read_back n small = to_z-of_z (fits n small)

minus_fits : (n : ℕ) → n < limit → SFits w64 (neg_ℤ (pos n))
minus_fits zero small = record { sfits = lit< tt }
minus_fits (suc n) small = record { sfits = omega arith }

turned : (n : ℕ) → n < limit → pos 0 -ℤ to_z w64 n ≡ neg_ℤ (pos n)
turned n small = rw (read_back n small) (+ℤ_idl (neg_ℤ (pos n)))

pub turned_fits : (n : ℕ) → n < limit → SFits w64 (pos 0 -ℤ to_z w64 n)
turned_fits n small = rw (turned n small) (minus_fits n small)

pub turned_back : (n : ℕ) → n < limit → to_z w64 (of_z w64 (pos 0 -ℤ to_z w64 n)) ≡ neg_ℤ (pos n)
turned_back n small = to_z-of_z (turned_fits n small) ∙ turned n small
