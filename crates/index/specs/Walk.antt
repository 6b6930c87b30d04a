-- A walk: from a start, one step after the other.
-- Assumes nothing.
use Rattle.std.specs.Prelude.{ℕ, zero, suc}

-- where a walk is after so many steps
unfoldable pub after : {A : Type 0} → (A → A) → ℕ → A → A
after step zero x = x
after step (suc n) x = step (after step n x)
