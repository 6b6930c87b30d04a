-- Lists of answers, compared by a test: the states of a machine that remembers what it was shown.
-- Assumes nothing.
use mathlib.Core.Path.{◌≡◌, refl, ap₂}
use mathlib.Core.Bool.{Bool, true, false, not, ◌&&◌}
use mathlib.Core.List.{List, [], ◌∷◌}
use Prim.Native.Nat.{ℕ}
use lib.Dec.{T}
use lib.ListN.{get_or}
use Rattle.index.proofs.Tested.{and_left, and_right}
use Rattle.module_tree.proofs.Flow.{both_pass}

abbrev pub alike : Bool → Bool → Bool
alike true b = b
alike false b = not b

abbrev pub same_answers : List Bool → List Bool → Bool
same_answers [] [] = true
same_answers [] (y ∷ ys) = false
same_answers (x ∷ xs) [] = false
same_answers (x ∷ xs) (y ∷ ys) = alike x y && same_answers xs ys

alike_self : (x : Bool) → T (alike x x)
alike_self true = tt
alike_self false = tt

alike_equal : (x y : Bool) → T (alike x y) → x ≡ y
alike_equal true true h = refl
alike_equal true false h = absurd h
alike_equal false true h = absurd h
alike_equal false false h = refl

pub answers_self : (s : List Bool) → T (same_answers s s)
answers_self [] = tt
answers_self (x ∷ s) = both_pass (alike x x) (same_answers s s) (alike_self x) (answers_self s)

pub answers_equal : (s t : List Bool) → T (same_answers s t) → s ≡ t
answers_equal [] [] h = refl
answers_equal [] (y ∷ ys) h = absurd h
answers_equal (x ∷ xs) [] h = absurd h
answers_equal (x ∷ xs) (y ∷ ys) h =
    ap₂ (λ a b. a ∷ b) (alike_equal x y (and_left (alike x y) (same_answers xs ys) h))
    (answers_equal xs ys (and_right (alike x y) (same_answers xs ys) h))

-- the answer at this place
abbrev pub answer : List Bool → ℕ → Bool
answer s k = get_or s k false

-- a list that stands for all states, and one for a dead machine
abbrev pub every_state : List Bool
every_state = true ∷ []

abbrev pub dead_state : List Bool
dead_state = []
