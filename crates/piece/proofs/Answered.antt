-- The code's answers at equal ends and places.
-- Assumes nothing.
use mathlib.Core.Path.{◌≡◌, ap, ◌∙◌}
use Prim.Native.Nat.{ℕ}
use Rattle.std.specs.Prelude.{Result, Ok, Err}
use Rattle.piece.specs.Found.{number, numbered}
use Rattle.piece.specs.declared.Found.{Found}
use Rattle.piece.specs.declared.Cause.{Cause}
use Rattle.piece.specs.declared.Refusal.{Refusal}

abbrev Answer : Type 0
Answer = Result Found (ℕ × ℕ)

pub gap : (a b : ℕ) → a ≡ b → ◌≡◌ {A = Answer} (Ok (Found.Gap a)) (Ok (Found.Gap b))
gap a b e = ap (λ (n : ℕ). Ok (Found.Gap n)) e

pub token : (class a b : ℕ) → a ≡ b → ◌≡◌ {A = Answer} (Ok (Found.Token class a)) (Ok (Found.Token class b))
token class a b e = ap (λ (n : ℕ). Ok (Found.Token class n)) e

-- the refusal that the code makes, for a cause at a place
pub refused : (r : Refusal) (cause : Cause) (a b : ℕ) → r ≡ record { cause = cause; place = record { 0 = a } } → a ≡ b
    → ◌≡◌ {A = Answer} (numbered (Err r)) (Err (number cause, b))
refused r cause a b is e =
    ap (λ (x : Refusal). numbered (Err x)) is ∙ ap (λ (n : ℕ). Err (number cause, n)) e
