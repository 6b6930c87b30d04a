-- The marks of several bytes: what follows the first is the rest of the mark, or it is not.
-- Assumes nothing.
use mathlib.Core.Path.{◌≡◌, refl, ap, ◌∙◌}
use mathlib.Core.Bool.{Bool, true, false, cond, ◌&&◌}
use mathlib.Core.List.{List, [], ◌∷◌}
use Prim.Native.Nat.{ℕ}
use native.Mathlib.Omega.{arith}
use lib.Dec.{eqb}
use Rattle.terminal.specs.Terminal.{assign, dots}
use Rattle.piece.specs.Piece.{token, refusal, no_token, after_colon, after_dot, marked}

-- a test of equality is one from either side
swapped : (a b : ℕ) → eqb a b ≡ eqb b a
swapped a b = grind arith

all_of : (b : Bool) → (b && true) ≡ b
all_of true = refl
all_of false = refl

pub colon_mark : (s : List ℕ) → marked (58 ∷ 61 ∷ []) assign s ≡ after_colon s
unfolding marked after_colon
colon_mark [] = refl
colon_mark (x ∷ []) = ap (λ (b : Bool). cond (b && false) (token assign 3) (refusal no_token 0)) (swapped 58 x)
colon_mark (x ∷ y ∷ s) =
    ap (λ (b : Bool). cond (eqb 58 x && b) (token assign 3) (refusal no_token 0)) (all_of (eqb 61 y))
    ∙ (λ i. cond (swapped 58 x i && swapped 61 y i) (token assign 3) (refusal no_token 0))

pub dot_mark : (s : List ℕ) → marked (46 ∷ []) dots s ≡ after_dot s
unfolding marked after_dot
dot_mark [] = refl
dot_mark (x ∷ s) =
    ap (λ (b : Bool). cond b (token dots 2) (refusal no_token 0)) (all_of (eqb 46 x) ∙ swapped 46 x)
