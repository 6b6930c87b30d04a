-- Rules some parts of which are marked, and what a tree of such a rule says: each token with its mark, and each marked part with its
-- place. A mark has a family and a number; families are told apart, so that one token can have a mark of each.
-- Assumes nothing.
use Rattle.std.specs.Prelude.{cond, List, [], ◌∷◌, ◌++◌, map, ℕ, ◌+◌, eqb, length}
use Rattle.std.proofs.Common.{inl, inr}
use Rattle.grammar.specs.Rule.{Rule, never, empty, token, ◌⨾◌, ◌or◌, repeated, Steps, last, step, Tree, in_order, yield}
use Rattle.terminal.specs.Terminal.{comma, left_brace, right_brace}

infixr 40 ◌then◌
infixr 30 ◌either◌
pub data Marked : Type 0 where
  -- the rules
  nothing : Marked
  nil : Marked
  word : ℕ → Marked
  ◌then◌ : Marked → Marked → Marked
  ◌either◌ : Marked → Marked → Marked
  steps : Marked → Marked → Marked
  -- a part with a mark of this family and this number, which is not 0
  mark : (family number : ℕ) → Marked → Marked

-- the rule without its marks
abbrev pub unmarked : Marked → Rule
unmarked nothing = never
unmarked nil = empty
unmarked (word c) = token c
unmarked (a then b) = unmarked a ⨾ unmarked b
unmarked (a either b) = unmarked a or unmarked b
unmarked (steps a b) = repeated (unmarked a) (unmarked b)
unmarked (mark family number a) = unmarked a

-- a rule of which nothing is marked
abbrev pub plain : Rule → Marked
plain never = nothing
plain empty = nil
plain (token c) = word c
plain (r ⨾ s) = plain r then plain s
plain (r or s) = plain r either plain s
plain (repeated r s) = steps (plain r) (plain s)

-- `[ x ]`, `x*`, `list x` and `{ x }`
abbrev pub optionally : Marked → Marked
optionally x = nil either x

abbrev pub many : Marked → Marked
many x = steps x nil

abbrev pub listed : Marked → Marked
listed x = x then many (word comma then x)

abbrev pub in_braces : Marked → Marked
in_braces x = word left_brace then x then word right_brace

-- the tokens of a tree, each with its class and the number of the innermost mark of a family that it stands in; v where it stands in none
abbrev pub leaves : (family v : ℕ) (m : Marked) → Tree (unmarked m) → List (ℕ × ℕ)
leaves family v nothing t = absurd t
leaves family v nil t = []
leaves family v (word c) t = (c, v) ∷ []
leaves family v (a then b) t = leaves family v a t.0 ++ leaves family v b t.1
leaves family v (a either b) (inl t) = leaves family v a t
leaves family v (a either b) (inr t) = leaves family v b t
leaves family v (steps a b) t = in_order (leaves family v a) (leaves family v b) t
leaves family v (mark f number a) t = leaves family (cond (eqb f family) number v) a t

-- the marks of a family, one for each token of the tree: 0 for a token that has none
abbrev pub marks : (family : ℕ) (m : Marked) → Tree (unmarked m) → List ℕ
marks family m t = map (λ (p : ℕ × ℕ). p.1) (leaves family 0 m t)

-- how many tokens a tree has
abbrev pub size : (m : Marked) → Tree (unmarked m) → ℕ
size m t = length (yield (unmarked m) t)

-- what is made of the steps of a repeated part and of its last part, the first of which stands at token d
abbrev pub in_place : {S L X : Type 0} → (S → ℕ) → (ℕ → S → List X) → (ℕ → L → List X) → ℕ → Steps S L → List X
in_place long f g d (last t) = g d t
in_place long f g d (step s more) = f d s ++ in_place long f g (d + long s) more

-- what is made of each part with a mark of this family, in text order, from the mark's number, the part, its first token and its tree
abbrev pub parts : {X : Type 0} (family : ℕ) (make : ℕ → (m : Marked) → ℕ → Tree (unmarked m) → X) (m : Marked) → ℕ → Tree (unmarked m)
    → List X
parts family make nothing d t = absurd t
parts family make nil d t = []
parts family make (word c) d t = []
parts family make (a then b) d t = parts family make a d t.0 ++ parts family make b (d + size a t.0) t.1
parts family make (a either b) d (inl t) = parts family make a d t
parts family make (a either b) d (inr t) = parts family make b d t
parts family make (steps a b) d t = in_place (size a) (parts family make a) (parts family make b) d t
parts family make (mark f number a) d t = cond (eqb f family) (make number a d t ∷ []) (parts family make a d t)
