-- The order of signed numbers.
-- Assumes nothing.
use mathlib.Core.Path.{◌≡◌, refl}
use mathlib.Core.Bool.{true, false}
use native.Mathlib.Omega.{arith}
use borrow.Author.Tests.{ltb-true, ltb-false, lt-ltb, le-ltb}
use lib.IntN.{ℤ, pos, negsuc}
use lib.Signed.{lt_z}
use Rattle.index.proofs.Search.{true_false, answers}

-- x is below y, and z is not: x is below z
pub below_not_below : (x y z : ℤ) → lt_z x y ≡ true → lt_z z y ≡ false → lt_z x z ≡ true
below_not_below (pos a) (pos b) (pos c) p q = lt-ltb a c (omega (arith, ltb-true a b p, ltb-false c b q))
below_not_below (pos a) (pos b) (negsuc c) p q = absurd (true_false refl q)
below_not_below (pos a) (negsuc b) z p q = absurd (true_false p refl)
below_not_below (negsuc a) (pos b) (pos c) p q = refl
below_not_below (negsuc a) (pos b) (negsuc c) p q = absurd (true_false refl q)
below_not_below (negsuc a) (negsuc b) (pos c) p q = refl
below_not_below (negsuc a) (negsuc b) (negsuc c) p q = lt-ltb c a (omega (arith, ltb-true b a p, ltb-false b c q))

-- y is not below x, and is below z: x is below z
pub not_below_below : (x y z : ℤ) → lt_z y x ≡ false → lt_z y z ≡ true → lt_z x z ≡ true
not_below_below (pos a) (pos b) (pos c) p q = lt-ltb a c (omega (arith, ltb-false b a p, ltb-true b c q))
not_below_below (pos a) (pos b) (negsuc c) p q = absurd (true_false q refl)
not_below_below (pos a) (negsuc b) z p q = absurd (true_false refl p)
not_below_below (negsuc a) (pos b) (pos c) p q = refl
not_below_below (negsuc a) (pos b) (negsuc c) p q = absurd (true_false q refl)
not_below_below (negsuc a) (negsuc b) (pos c) p q = refl
not_below_below (negsuc a) (negsuc b) (negsuc c) p q = lt-ltb c a (omega (arith, ltb-false a b p, ltb-true c b q))

-- not both of two are below the other, and none is below itself
pub not_both : (x y : ℤ) → lt_z x y ≡ true → lt_z y x ≡ false
not_both (pos a) (pos b) p = le-ltb b a (omega (arith, ltb-true a b p))
not_both (pos a) (negsuc b) p = absurd (true_false p refl)
not_both (negsuc a) (pos b) p = refl
not_both (negsuc a) (negsuc b) p = le-ltb a b (omega (arith, ltb-true b a p))

pub not_itself : (x : ℤ) → lt_z x x ≡ false
not_itself (pos a) = le-ltb a a (omega arith)
not_itself (negsuc a) = le-ltb a a (omega arith)

pub below_below : (x y z : ℤ) → lt_z x y ≡ true → lt_z y z ≡ true → lt_z x z ≡ true
below_below x y z p q = below_not_below x y z p (not_both y z q)

-- x is not below z, nor z below y: x is not below y
pub between : (x z y : ℤ) → lt_z x z ≡ false → lt_z z y ≡ false → lt_z x y ≡ false
between x z y p q = answers (lt_z x y) (λ t. absurd (true_false (below_not_below x y z t q) p)) (λ f. f)
