-- A machine that checks: at each token its output is the token's mark, or it is dead. Where it does not end dead, the marks of a tree
-- are the outputs along its classes.
-- Assumes nothing.
use mathlib.Core.Path.{◌≡◌, refl, sym, ap, ap₂, ◌∙◌, subst}
use mathlib.Core.Bool.{Bool, true, false, cond, not, ◌&&◌}
use mathlib.Core.List.{List, [], ◌∷◌, ◌++◌, map, map-append}
use mathlib.Core.Logic.{inl, inr}
use Prim.Native.Nat.{ℕ}
use lib.Dec.{T, eqb, eqb→eq, T_not}
use Rattle.grammar.specs.Rule.{last, step, Tree, yield}
use Rattle.index.proofs.Tested.{and_left, and_right}
use Rattle.module_tree.specs.Marked.{Marked, nothing, nil, word, ◌then◌, ◌either◌, steps, mark, unmarked, leaves}
use Rattle.module_tree.proofs.Flow.{has, from_left, from_right, run, reaches, arrives}

abbrev pub class_of : ℕ × ℕ → ℕ
class_of p = p.0

abbrev pub mark_of : ℕ × ℕ → ℕ
mark_of p = p.1

-- the classes of a tree's tokens are its yield
module _ (family : ℕ) where
  abbrev Classed : Marked → Type 0
  Classed m = (v : ℕ) (t : Tree (unmarked m)) → map class_of (leaves family v m t) ≡ yield (unmarked m) t

  classed_either : (a b : Marked) → Classed a → Classed b → Classed (a either b)
  classed_either a b f g v (inl t) = f v t
  classed_either a b f g v (inr t) = g v t

  classed_steps : (a b : Marked) → Classed a → Classed b → Classed (steps a b)
  classed_steps a b f g v (last t) = g v t
  classed_steps a b f g v (step t more) =
      map-append class_of (leaves family v a t) (leaves family v (steps a b) more)
      ∙ ap₂ (λ x y. x ++ y) (f v t) (classed_steps a b f g v more)

  pub classed : (m : Marked) → Classed m
  classed nothing = λ v t. absurd t
  classed nil = λ v t. refl
  classed (word c) = λ v t. refl
  classed (a then b) =
      let f = classed a in
      let g = classed b in
      λ v t. map-append class_of (leaves family v a t.0) (leaves family v b t.1) ∙ ap₂ (λ x y. x ++ y) (f v t.0) (g v t.1)
  classed (a either b) = classed_either a b (classed a) (classed b)
  classed (steps a b) = classed_steps a b (classed a) (classed b)
  classed (mark f number a) = let g = classed a in λ v t. g (cond (eqb f family) number v) t

-- ---- the machine: the state after a token, and the output at it
module _ {S : Type 0} (next : S → ℕ → S) (out : S → ℕ → ℕ) where
  abbrev pub after : S → List ℕ → S
  after s [] = s
  after s (c ∷ cs) = after (next s c) cs

  abbrev pub outputs : S → List ℕ → List ℕ
  outputs s [] = []
  outputs s (c ∷ cs) = out s c ∷ outputs (next s c) cs

  -- the same from the right: s is the state behind the last token
  abbrev pub before : S → List ℕ → S
  before s [] = s
  before s (c ∷ cs) = next (before s cs) c

  abbrev pub outputs_before : S → List ℕ → List ℕ
  outputs_before s [] = []
  outputs_before s (c ∷ cs) = out (before s cs) c ∷ outputs_before s cs

  -- without a check
  abbrev pub unchecked : S → ℕ → ℕ → S
  unchecked s c v = next s c

  pub unchecked_after : (s : S) (ps : List (ℕ × ℕ)) → from_left unchecked s ps ≡ after s (map class_of ps)
  unchecked_after s [] = refl
  unchecked_after s (p ∷ ps) = unchecked_after (next s p.0) ps

  module _ (same : S → S → Bool) (every dead : S) (reflexive : (s : S) → T (same s s)) (sound : (s t : S) → T (same s t) → s ≡ t) where
    abbrev pub checked : S → ℕ → ℕ → S
    checked s c v = cond (same s dead) dead (cond (eqb (out s c) v) (next s c) dead)

    abbrev Alive : S → Type 0
    Alive s = T (not (same s dead))

    not_alive : Alive dead → ⊥
    not_alive h = T_not (same dead dead) h (reflexive dead)

    -- a step that does not end dead
    record Stepped (s : S) (c v : ℕ) : Type 0 where
      was : Alive s
      is : out s c ≡ v
      to : checked s c v ≡ next s c

    stepped : (s : S) (c v : ℕ) → Alive (checked s c v) → Stepped s c v
    stepped s c v h = go (same s dead) refl (eqb (out s c) v) refl h
      where
        go : (a : Bool) → same s dead ≡ a → (b : Bool) → eqb (out s c) v ≡ b → Alive (cond a dead (cond b (next s c) dead)) → Stepped s c v
        go true p b q k = absurd (not_alive k)
        go false p true q k = record { was = rw p tt; is = eqb→eq (out s c) v (rw q tt); to = rw (p, q) }
        go false p false q k = absurd (not_alive k)

    dead_stays : (ps : List (ℕ × ℕ)) → from_left checked dead ps ≡ dead
    dead_stays [] = refl
    dead_stays (p ∷ ps) = ap (λ x. from_left checked x ps) (go (same dead dead) (reflexive dead)) ∙ dead_stays ps
      where
        go : (b : Bool) → T b → cond b dead (cond (eqb (out dead p.0) p.1) (next dead p.0) dead) ≡ dead
        go true h = refl
        go false h = absurd h

    -- from the left
    left_checked : (s : S) (ps : List (ℕ × ℕ)) → Alive (from_left checked s ps)
        → (outputs s (map class_of ps) ≡ map mark_of ps) × (from_left checked s ps ≡ after s (map class_of ps))
    left_checked s [] h = (refl, refl)
    left_checked s (p ∷ ps) h =
        let one = stepped s p.0 p.1 (go (same (checked s p.0 p.1) dead) refl) in
        let rest = left_checked (next s p.0) ps (subst (λ x. Alive (from_left checked x ps)) one.to h) in
        (ap₂ (λ x y. x ∷ y) one.is rest.0, ap (λ x. from_left checked x ps) one.to ∙ rest.1)
      where
        go : (b : Bool) → same (checked s p.0 p.1) dead ≡ b → Alive (checked s p.0 p.1)
        go true e =
            let is : checked s p.0 p.1 ≡ dead = sound (checked s p.0 p.1) dead (rw e tt) in
            absurd (not_alive (subst Alive (ap (λ x. from_left checked x ps) is ∙ dead_stays ps) h))
        go false e = rw e tt

    -- from the right
    right_checked : (s : S) (ps : List (ℕ × ℕ)) → Alive (from_right checked s ps)
        → (outputs_before s (map class_of ps) ≡ map mark_of ps) × (from_right checked s ps ≡ before s (map class_of ps))
    right_checked s [] h = (refl, refl)
    right_checked s (p ∷ ps) h =
        let one = stepped (from_right checked s ps) p.0 p.1 h in
        let rest = right_checked s ps one.was in
        (ap₂ (λ x y. x ∷ y) (ap (λ x. out x p.0) (sym rest.1) ∙ one.is) rest.0, one.to ∙ ap (λ x. next x p.0) rest.1)

    -- the test: from the states l the machine ends in those allowed, of which dead is none
    abbrev pub passes : Bool → (family v : ℕ) → Marked → List S → List S → Bool
    passes left family v m l allowed = reaches same every checked family left m v l allowed && not (has same every dead allowed)

    module _ (family v : ℕ) (m : Marked) (l allowed : List S) (t : Tree (unmarked m)) (s : S) (from : T (has same every s l)) where
      abbrev ps : List (ℕ × ℕ)
      ps = leaves family v m t

      ended : (left : Bool) → T (passes left family v m l allowed) → T (has same every (run checked left s ps) allowed)
      ended left p =
          arrives same every reflexive sound checked family left m v l allowed
          (and_left (reaches same every checked family left m v l allowed) (not (has same every dead allowed)) p) t s from

      alive : (left : Bool) → T (passes left family v m l allowed) → Alive (run checked left s ps)
      alive left p = go (same (run checked left s ps) dead) refl
        where
          go : (b : Bool) → same (run checked left s ps) dead ≡ b → T (not b)
          go true e =
              absurd (T_not (has same every dead allowed)
              (and_right (reaches same every checked family left m v l allowed) (not (has same every dead allowed)) p)
              (subst (λ x. T (has same every x allowed)) (sound (run checked left s ps) dead (rw e tt)) (ended left p)))
          go false e = tt

      -- the marks are the outputs, and the last state is one of those allowed
      pub reads_left : T (passes true family v m l allowed)
          → (outputs s (yield (unmarked m) t) ≡ map mark_of (leaves family v m t))
          × T (has same every (after s (yield (unmarked m) t)) allowed)
      reads_left p =
          let read = left_checked s ps (alive true p) in
          let cs = classed family m v t in
          (ap (outputs s) (sym cs) ∙ read.0, subst (λ x. T (has same every x allowed)) (read.1 ∙ ap (after s) cs) (ended true p))

      pub reads_right : T (passes false family v m l allowed)
          → outputs_before s (yield (unmarked m) t) ≡ map mark_of (leaves family v m t)
      reads_right p = ap (outputs_before s) (sym (classed family m v t)) ∙ (right_checked s ps (alive false p)).0
