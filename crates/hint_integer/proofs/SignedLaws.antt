-- Laws of integers: the range, the magnitude, and how long a text is.
-- Assumes nothing.
use Prim.Native.Nat.{ℕ, ◌^◌, ◌≤◌, ◌<◌}
use Prim.Native.Char.{code}
use native.Mathlib.Nat.{not-suc-le-zero}
use native.Mathlib.Omega.{arith}
use mathlib.Core.Path.{◌≡◌, refl, ap}
use mathlib.Core.Bool.{true, false}
use mathlib.Core.List.{◌∷◌}
use lib.Dec.{lit≤}
use lib.IntN.{ℤ, pos, negsuc, nat_abs, ◌-ℤ◌}
use lib.Signed.{lt_z}
use lib.ListN.{length}
use borrow.Author.Tests.{leb-true, ltb-true}
use Rattle.hint_integer.specs.Form.{Usable}
use Rattle.hint_integer.specs.declared.Form.{Form}
use Rattle.hint_integer.specs.declared.Form.TheVariants.{Base, Point}
use Rattle.hint_integer.specs.Signed.{in_range, magnitude, signed}
use Rattle.std.proofs.Common.{Option, Some, None}
use Rattle.digit.proofs.Sizes.{digits_short, pointed_size}

-- an integer in the range has a magnitude below 2 ^ 32
pub magnitude_small : (z : ℤ) → in_range z ≡ true → nat_abs z < 2 ^ 32
unfolding in_range
magnitude_small (pos n) h = omega (arith, leb-true n 4294967295 h)
magnitude_small (negsuc n) h = omega (arith, ltb-true n 2147483648 h)

-- below zero, negated, an integer is its magnitude
pub negated : (z : ℤ) → lt_z z (pos 0) ≡ true → (pos 0 -ℤ z) ≡ pos (nat_abs z)
negated (pos n) h = absurd (not-suc-le-zero (ltb-true n 0 h))
negated (negsuc n) h = ap pos (omega arith)

pub not_negative : (z : ℤ) → lt_z z (pos 0) ≡ false → z ≡ pos (nat_abs z)
not_negative (pos n) h = refl
not_negative (negsuc n) h = let z : ◌≡◌ {A = ℕ} 0 1 = cc in absurd (omega arith)

-- below zero a minus and then the magnitude
pub signed_negative : (form : Option Form) (z : ℤ) → lt_z z (pos 0) ≡ true → signed form z ≡ code "-" ∷ magnitude form (nat_abs z)
unfolding signed
signed_negative form (pos n) h = absurd (not-suc-le-zero (ltb-true n 0 h))
signed_negative form (negsuc n) h = refl

pub signed_other : (form : Option Form) (z : ℤ) → lt_z z (pos 0) ≡ false → signed form z ≡ magnitude form (nat_abs z)
unfolding signed
signed_other form (pos n) h = refl
signed_other form (negsuc n) h = let z : ◌≡◌ {A = ℕ} 0 1 = cc in absurd (omega arith)

-- a magnitude is short enough for the part of 64 bytes, and its minus too
pub magnitude_size : (form : Option Form) (n : ℕ) → Usable form → n < 2 ^ 32 → length (magnitude form n) ≤ 43
unfolding magnitude
magnitude_size (Some (Base base)) n u h = omega (arith, digits_short 2 base 31 n (lit≤ tt) u.0 h)
magnitude_size (Some (Point places)) n u h = omega (arith, pointed_size places n h)
magnitude_size None n u h = lit≤ tt
