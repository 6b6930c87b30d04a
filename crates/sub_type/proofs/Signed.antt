-- Signed numbers: when two are the same, and how they are passed on.
-- Assumes nothing.
use mathlib.Core.Path.{◌≡◌, refl, sym, ap, ◌∙◌}
use mathlib.Core.Bool.{not, ◌&&◌}
use Prim.Native.Nat.{ℕ, zero, suc, ◌<◌}
use native.Mathlib.Omega.{arith}
use borrow.Author.Tests.{ltb-true, ltb-false, eq-eqb, ne_eqb}
use lib.Dec.{ltb, eqb}
use lib.IntN.{ℤ, pos, negsuc, neg_ℤ, ◌-ℤ◌, +ℤ_idl}
use lib.Signed.{lt_z, mag}
use mir.Syntax.{w64}
use mir.Val.{SFits, to_z, of_z}
use mir.Facts.{to_z-of_z, to_z_pos}
use Rattle.index.proofs.Search.{answers}
use Rattle.sub_type.specs.Number.{same_number}

-- a number of 32 bits in 64 of them
pub widened : (v : ℕ) → v < 4294967296 → to_z w64 v ≡ pos v
widened v h = to_z_pos w64 (omega arith)

pub negated : (v : ℕ) → v < 4294967296 → pos 0 -ℤ to_z w64 v ≡ neg_ℤ (pos v)
negated v h = ap (λ (z : ℤ). pos 0 -ℤ z) (widened v h) ∙ +ℤ_idl (neg_ℤ (pos v))

pub negated_fits : (v : ℕ) → v < 4294967296 → SFits w64 (neg_ℤ (pos v))
negated_fits zero h = record { sfits = omega arith }
negated_fits (suc v) h = record { sfits = omega arith }

-- a signed number that is passed on stays the same
pub passed_on : {z : ℤ} → mag z < 9223372036854775808 → to_z w64 (of_z w64 z) ≡ z
passed_on {z} h = to_z-of_z {w = w64} {z = z} (record { sfits = h })

-- of two numbers that are the same neither is below the other
neither : (a b : ℕ) → (not (ltb a b) && not (ltb b a)) ≡ eqb a b
neither a b =
    answers (ltb a b) (λ t. simp t (sym (ne_eqb a b (λ q. omega (arith, ltb-true a b t)))))
    (λ f.
    answers (ltb b a) (λ t. simp (f, t) (sym (ne_eqb a b (λ q. omega (arith, ltb-true b a t)))))
    (λ g. simp (f, g) (sym (eq-eqb a b (omega (arith, ltb-false a b f, ltb-false b a g))))))

turned : (a b : ℕ) → (not (ltb b a) && not (ltb a b)) ≡ eqb a b
turned a b =
    answers (ltb b a) (λ t. simp t (sym (ne_eqb a b (λ q. omega (arith, ltb-true b a t)))))
    (λ f.
    answers (ltb a b) (λ t. simp (f, t) (sym (ne_eqb a b (λ q. omega (arith, ltb-true a b t)))))
    (λ g. simp (f, g) (sym (eq-eqb a b (omega (arith, ltb-false b a f, ltb-false a b g))))))

pub same_neither : (a b : ℤ) → (not (lt_z a b) && not (lt_z b a)) ≡ same_number a b
same_neither (pos a) (pos b) = neither a b
same_neither (pos a) (negsuc b) = refl
same_neither (negsuc a) (pos b) = refl
same_neither (negsuc a) (negsuc b) = turned a b
