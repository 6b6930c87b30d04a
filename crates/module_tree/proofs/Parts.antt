-- A rule without a mark of a family has no part with one.
-- Assumes nothing.
use mathlib.Core.Path.{◌≡◌, refl, ap₂}
use mathlib.Core.Bool.{Bool, true, false, cond, not, ◌&&◌}
use mathlib.Core.List.{List, [], ◌∷◌, ◌++◌}
use mathlib.Core.Logic.{inl, inr}
use Prim.Native.Nat.{ℕ, ◌+◌}
use lib.Dec.{T, eqb}
use Rattle.grammar.specs.Rule.{Tree, last, step}
use Rattle.index.proofs.Tested.{and_left, and_right}
use Rattle.module_tree.specs.Marked.{Marked, nothing, nil, word, ◌then◌, ◌either◌, steps, mark, unmarked, size, parts}

abbrev pub without : (family : ℕ) → Marked → Bool
without family nothing = true
without family nil = true
without family (word c) = true
without family (a then b) = without family a && without family b
without family (a either b) = without family a && without family b
without family (steps a b) = without family a && without family b
without family (mark f number a) = not (eqb f family) && without family a

module _ {X : Type 0} (family : ℕ) (make : ℕ → (m : Marked) → ℕ → Tree (unmarked m) → X) where
  abbrev Empty : Marked → Type 0
  Empty m = (d : ℕ) (t : Tree (unmarked m)) → parts family make m d t ≡ []

  either_empty : (a b : Marked) → Empty a → Empty b → Empty (a either b)
  either_empty a b f g d (inl t) = f d t
  either_empty a b f g d (inr t) = g d t

  steps_empty : (a b : Marked) → Empty a → Empty b → Empty (steps a b)
  steps_empty a b f g d (last t) = g d t
  steps_empty a b f g d (step s more) = ap₂ (λ x y. x ++ y) (f d s) (steps_empty a b f g (d + size a s) more)

  mark_empty : (b : Bool) → T (not b) → (x y : List X) → y ≡ [] → cond b x y ≡ []
  mark_empty true h x y e = absurd h
  mark_empty false h x y e = e

  pub no_parts : (m : Marked) → T (without family m) → Empty m
  no_parts nothing p = λ d t. absurd t
  no_parts nil p = λ d t. refl
  no_parts (word c) p = λ d t. refl
  no_parts (a then b) p =
      let f = no_parts a (and_left (without family a) (without family b) p) in
      let g = no_parts b (and_right (without family a) (without family b) p) in
      λ d t. ap₂ (λ x y. x ++ y) (f d t.0) (g (d + size a t.0) t.1)
  no_parts (a either b) p =
      either_empty a b (no_parts a (and_left (without family a) (without family b) p))
      (no_parts b (and_right (without family a) (without family b) p))
  no_parts (steps a b) p =
      steps_empty a b (no_parts a (and_left (without family a) (without family b) p))
      (no_parts b (and_right (without family a) (without family b) p))
  no_parts (mark f number a) p =
      let g = no_parts a (and_right (not (eqb f family)) (without family a) p) in
      λ d t. mark_empty (eqb f family) (and_left (not (eqb f family)) (without family a) p) (make number a d t ∷ [])
      (parts family make a d t) (g d t)
