-- A definition by tests on equality, taken test by test: at the first that holds its own answer, and past one that fails the rest.
-- Assumes nothing.
use mathlib.Core.Path.{◌≡◌}
use mathlib.Core.Bool.{cond}
use Prim.Native.Nat.{ℕ}
use borrow.Author.Tests.{eq-eqb, ne_eqb}
use lib.Dec.{eqb}

module _ {A : Type 0} where
  pub same : {a b : ℕ} (x y : A) → a ≡ b → x ≡ cond (eqb a b) x y
  same {a} {b} x y e = rw (eq-eqb a b e)

  pub other : {a b : ℕ} {r y : A} (x : A) → (a ≡ b → ⊥) → r ≡ y → r ≡ cond (eqb a b) x y
  other {a} {b} x n e = rw (ne_eqb a b n) e
