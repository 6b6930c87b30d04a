-- A machine reads the tokens of a tree, each with its class and its mark, from the left or from the right. The states that it can be in
-- behind a rule are computed from those before it, by recursion over the rule: whatever the tree, the machine ends in one of them.
-- Assumes nothing.
use mathlib.Core.Path.{◌≡◌, refl, ap, subst}
use mathlib.Core.Bool.{Bool, true, false, cond, ◌&&◌, ◌||◌}
use mathlib.Core.List.{List, [], ◌∷◌, ◌++◌}
use mathlib.Core.Logic.{inl, inr}
use Prim.Native.Nat.{ℕ, zero, suc}
use lib.Dec.{T, eqb}
use Rattle.grammar.specs.Rule.{last, step, Tree}
use Rattle.index.proofs.Tested.{and_left, and_right}
use Rattle.module_tree.specs.Marked.{Marked, nothing, nil, word, ◌then◌, ◌either◌, steps, mark, unmarked, leaves}

-- what a disjunction says
pub or_left : (a b : Bool) → T a → T (a || b)
or_left true b h = tt
or_left false b h = absurd h

pub or_right : (a b : Bool) → T b → T (a || b)
or_right true b h = tt
or_right false b h = h

pub or_cases : {P : Type 0} (a b : Bool) → T (a || b) → (T a → P) → (T b → P) → P
or_cases true b h f g = f tt
or_cases false b h f g = g h

pub both_pass : (a b : Bool) → T a → T b → T (a && b)
both_pass true b p q = q
both_pass false b p q = p

-- The machine: its step by the state, the class and the mark; from the left, or else from the right.
module _ {S : Type 0} (move : S → ℕ → ℕ → S) where
  abbrev pub from_left : S → List (ℕ × ℕ) → S
  from_left s [] = s
  from_left s (p ∷ ps) = from_left (move s p.0 p.1) ps

  abbrev pub from_right : S → List (ℕ × ℕ) → S
  from_right s [] = s
  from_right s (p ∷ ps) = move (from_right s ps) p.0 p.1

  abbrev pub run : Bool → S → List (ℕ × ℕ) → S
  run true s ps = from_left s ps
  run false s ps = from_right s ps

  left_append : (s : S) (ps qs : List (ℕ × ℕ)) → from_left s (ps ++ qs) ≡ from_left (from_left s ps) qs
  left_append s [] qs = refl
  left_append s (p ∷ ps) qs = left_append (move s p.0 p.1) ps qs

  right_append : (s : S) (ps qs : List (ℕ × ℕ)) → from_right s (ps ++ qs) ≡ from_right (from_right s qs) ps
  right_append s [] qs = refl
  right_append s (p ∷ ps) qs = ap (λ x. move x p.0 p.1) (right_append s ps qs)

-- States, compared by a test; `every` in a list stands for all states.
module _ {S : Type 0} (same : S → S → Bool) (every : S) where
  abbrev pub has : S → List S → Bool
  has s [] = false
  has s (x ∷ l) = (same x s || same x every) || has s l

  abbrev pub unless : Bool → S → List S → List S
  unless true x l = l
  unless false x l = x ∷ l

  abbrev pub insert : S → List S → List S
  insert x l = unless (has x l) x l

  abbrev pub join : List S → List S → List S
  join [] l = l
  join (x ∷ k) l = insert x (join k l)

  abbrev pub within : List S → List S → Bool
  within [] l = true
  within (x ∷ k) l = has x l && within k l

  -- l with what f adds, until it adds nothing; every state, where that is not reached
  abbrev pub grow : ℕ → (List S → List S) → List S → List S
  grow zero f l = l
  grow (suc n) f l = let next = f l in elim (within next l) [ true ↦ l | false ↦ grow n f (join next l) ]

  abbrev pub settled : Bool → List S → List S
  settled true g = g
  settled false g = every ∷ []

  abbrev pub closed : (List S → List S) → List S → List S
  closed f l = let g = grow 12 f l in settled (within l g && within (f g) g) g

  -- the states behind a rule, from those before it
  module _ (move : S → ℕ → ℕ → S) (family : ℕ) where
    abbrev image : ℕ → ℕ → List S → List S
    image c v [] = []
    image c v (x ∷ l) = insert (cond (same x every) every (move x c v)) (image c v l)

    -- one part and then the other, as the machine meets them
    abbrev in_turn : Bool → (List S → List S) → (List S → List S) → List S → List S
    in_turn true f g l = g (f l)
    in_turn false f g l = f (g l)

    abbrev pub flow : Bool → Marked → ℕ → List S → List S
    flow left nothing v l = []
    flow left nil v l = l
    flow left (word c) v l = image c v l
    flow left (a then b) v l = in_turn left (flow left a v) (flow left b v) l
    flow left (a either b) v l = join (flow left a v l) (flow left b v l)
    flow left (steps a b) v l = in_turn left (closed (flow left a v)) (flow left b v) l
    flow left (mark f number a) v l = flow left a (cond (eqb f family) number v) l

    -- from the states l the machine ends in those allowed
    abbrev pub reaches : Bool → Marked → ℕ → List S → List S → Bool
    reaches left m v l allowed = within (flow left m v l) allowed

  module _ (reflexive : (s : S) → T (same s s)) (sound : (s t : S) → T (same s t) → s ≡ t) where
    every_has : (s : S) → T (has s (every ∷ []))
    every_has s = or_left (same every s || same every every) false (or_right (same every s) (same every every) (reflexive every))

    -- a list that has every state has each
    has_every : (s : S) (l : List S) → T (has every l) → T (has s l)
    has_every s [] h = h
    has_every s (x ∷ l) h =
        or_cases (same x every || same x every) (has every l) h
        (λ p. or_left (same x s || same x every) (has s l)
        (or_right (same x s) (same x every) (or_cases (same x every) (same x every) p (λ q. q) (λ q. q))))
        (λ p. or_right (same x s || same x every) (has s l) (has_every s l p))

    -- what one entry is, and what it leads to
    entry_has : (x s : S) (l : List S) → T (same x s || same x every) → T (has x l) → T (has s l)
    entry_has x s l h p =
        or_cases (same x s) (same x every) h (λ q. subst (λ y. T (has y l)) (sound x s q) p)
        (λ q. has_every s l (subst (λ y. T (has y l)) (sound x every q) p))

    insert_first : (x : S) (l : List S) → T (has x (insert x l))
    insert_first x l = go (has x l) refl
      where
        go : (b : Bool) → has x l ≡ b → T (has x (unless b x l))
        go true e = rw e tt
        go false e = or_left (same x x || same x every) (has x l) (or_left (same x x) (same x every) (reflexive x))

    insert_rest : (x s : S) (l : List S) → T (has s l) → T (has s (insert x l))
    insert_rest x s l h = go (has x l)
      where
        go : (b : Bool) → T (has s (unless b x l))
        go true = h
        go false = or_right (same x s || same x every) (has s l) h

    join_left : (s : S) (k l : List S) → T (has s k) → T (has s (join k l))
    join_left s [] l h = absurd h
    join_left s (x ∷ k) l h =
        or_cases (same x s || same x every) (has s k) h (λ p. entry_has x s (insert x (join k l)) p (insert_first x (join k l)))
        (λ p. insert_rest x s (join k l) (join_left s k l p))

    join_right : (s : S) (k l : List S) → T (has s l) → T (has s (join k l))
    join_right s [] l h = h
    join_right s (x ∷ k) l h = insert_rest x s (join k l) (join_right s k l h)

    within_has : (s : S) (k l : List S) → T (within k l) → T (has s k) → T (has s l)
    within_has s [] l w h = absurd h
    within_has s (x ∷ k) l w h =
        or_cases (same x s || same x every) (has s k) h (λ p. entry_has x s l p (and_left (has x l) (within k l) w))
        (λ p. within_has s k l (and_right (has x l) (within k l) w) p)

    -- a closed list has what it is made from, and what f makes of it
    closed_start : (f : List S → List S) (l : List S) (s : S) → T (has s l) → T (has s (closed f l))
    closed_start f l s h = go (grow 12 f l)
      where
        go : (g : List S) → T (has s (settled (within l g && within (f g) g) g))
        go g = at (within l g && within (f g) g) refl
          where
            at : (b : Bool) → within l g && within (f g) g ≡ b → T (has s (settled b g))
            at true e = within_has s l g (and_left (within l g) (within (f g) g) (rw e tt)) h
            at false e = every_has s

    closed_step : (f : List S → List S) (l : List S) (s : S) → T (has s (f (closed f l))) → T (has s (closed f l))
    closed_step f l s h = go (grow 12 f l) h
      where
        go : (g : List S) → T (has s (f (settled (within l g && within (f g) g) g))) → T (has s (settled (within l g && within (f g) g) g))
        go g = at (within l g && within (f g) g) refl
          where
            at : (b : Bool) → within l g && within (f g) g ≡ b → T (has s (f (settled b g))) → T (has s (settled b g))
            at true e p = within_has s (f g) g (and_right (within l g) (within (f g) g) (rw e tt)) p
            at false e p = every_has s

    module _ (move : S → ℕ → ℕ → S) (family : ℕ) where
      image_has : (c v : ℕ) (s : S) (l : List S) → T (has s l) → T (has (move s c v) (image move family c v l))
      image_has c v s [] h = absurd h
      image_has c v s (x ∷ l) h =
          or_cases (same x s || same x every) (has s l) h (λ p. go (same x every) refl p)
          (λ p. insert_rest (cond (same x every) every (move x c v)) (move s c v) (image move family c v l) (image_has c v s l p))
        where
          go : (b : Bool) → same x every ≡ b → T (same x s || same x every)
              → T (has (move s c v) (insert (cond b every (move x c v)) (image move family c v l)))
          go true e p = has_every (move s c v) (insert every (image move family c v l)) (insert_first every (image move family c v l))
          go false e p =
              let q : x ≡ s = sound x s (or_cases (same x s) (same x every) p (λ r. r) (λ r. absurd (rw e at r))) in
              subst (λ y. T (has (move y c v) (insert (move x c v) (image move family c v l)))) q
              (insert_first (move x c v) (image move family c v l))

      -- from a state of the list the machine ends in one of those computed
      abbrev Lands : Bool → Marked → Type 0
      Lands left m = (v : ℕ) (l : List S) (t : Tree (unmarked m)) (s : S) → T (has s l) → T
          (has (run move left s (leaves family v m t)) (flow move family left m v l))

      lands_none : (left : Bool) → Lands left nil
      lands_none true v l t s h = h
      lands_none false v l t s h = h

      lands_word : (left : Bool) (c : ℕ) → Lands left (word c)
      lands_word true c v l t s h = image_has c v s l h
      lands_word false c v l t s h = image_has c v s l h

      lands_then : (left : Bool) (a b : Marked) → Lands left a → Lands left b → Lands left (a then b)
      lands_then true a b f g v l t s h =
          rw (left_append move s (leaves family v a t.0) (leaves family v b t.1))
          (g v (flow move family true a v l) t.1 (from_left move s (leaves family v a t.0)) (f v l t.0 s h))
      lands_then false a b f g v l t s h =
          rw (right_append move s (leaves family v a t.0) (leaves family v b t.1))
          (f v (flow move family false b v l) t.0 (from_right move s (leaves family v b t.1)) (g v l t.1 s h))

      lands_either : (left : Bool) (a b : Marked) → Lands left a → Lands left b → Lands left (a either b)
      lands_either left a b f g v l (inl t) s h =
          join_left (run move left s (leaves family v a t)) (flow move family left a v l) (flow move family left b v l) (f v l t s h)
      lands_either left a b f g v l (inr t) s h =
          join_right (run move left s (leaves family v b t)) (flow move family left a v l) (flow move family left b v l) (g v l t s h)

      -- the steps keep to the closed list
      left_steps : (a b : Marked) → Lands true a → Lands true b → (v : ℕ) (l : List S) (t : Tree (unmarked (steps a b))) (s : S)
          → T (has s (closed (flow move family true a v) l))
          → T (has (from_left move s (leaves family v (steps a b) t)) (flow move family true b v (closed (flow move family true a v) l)))
      left_steps a b f g v l (last t) s h = g v (closed (flow move family true a v) l) t s h
      left_steps a b f g v l (step t more) s h =
          rw (left_append move s (leaves family v a t) (leaves family v (steps a b) more))
          (left_steps a b f g v l more (from_left move s (leaves family v a t))
          (closed_step (flow move family true a v) l (from_left move s (leaves family v a t))
          (f v (closed (flow move family true a v) l) t s h)))

      right_steps : (a b : Marked) → Lands false a → Lands false b → (v : ℕ) (l : List S) (t : Tree (unmarked (steps a b))) (s : S)
          → T (has s l) → T (has (from_right move s (leaves family v (steps a b) t)) (closed (flow move family false a v) (flow move family false b v l)))
      right_steps a b f g v l (last t) s h =
          closed_start (flow move family false a v) (flow move family false b v l) (from_right move s (leaves family v b t)) (g v l t s h)
      right_steps a b f g v l (step t more) s h =
          let behind = leaves family v (steps a b) more in
          let k = flow move family false b v l in
          rw (right_append move s (leaves family v a t) behind)
          (closed_step (flow move family false a v) k (from_right move (from_right move s behind) (leaves family v a t))
          (f v (closed (flow move family false a v) k) t (from_right move s behind) (right_steps a b f g v l more s h)))

      lands_steps : (left : Bool) (a b : Marked) → Lands left a → Lands left b → Lands left (steps a b)
      lands_steps true a b f g v l t s h = left_steps a b f g v l t s (closed_start (flow move family true a v) l s h)
      lands_steps false a b f g v l t s h = right_steps a b f g v l t s h

      lands : (left : Bool) (m : Marked) → Lands left m
      lands left nothing = λ v l t s h. absurd t
      lands left nil = lands_none left
      lands left (word c) = lands_word left c
      lands left (a then b) = lands_then left a b (lands left a) (lands left b)
      lands left (a either b) = lands_either left a b (lands left a) (lands left b)
      lands left (steps a b) = lands_steps left a b (lands left a) (lands left b)
      lands left (mark f number a) = let inner = lands left a in λ v l t s h. inner (cond (eqb f family) number v) l t s h

      -- so where the test says that it ends in those allowed, it does
      pub arrives : (left : Bool) (m : Marked) (v : ℕ) (l allowed : List S) → T (reaches move family left m v l allowed)
          → (t : Tree (unmarked m)) (s : S) → T (has s l) → T (has (run move left s (leaves family v m t)) allowed)
      arrives left m v l allowed p t s h =
          within_has (run move left s (leaves family v m t)) (flow move family left m v l) allowed p (lands left m v l t s h)
