-- Rules over token classes, their trees, and the class sequence that a tree yields. A tree is a derivation less its tokens.
-- Document 01, "Grammar".
-- Assumes nothing.
use Rattle.std.specs.Prelude.{List, [], ◌∷◌, ◌++◌, ◌⊎◌, ℕ}
use Rattle.std.proofs.Common.{inl, inr}

infixr 40 ◌⨾◌
infixr 30 ◌or◌
pub data Rule : Type 0 where
  -- no sequence at all
  never : Rule
  -- the sequence without tokens
  empty : Rule
  -- one token of this class
  token : ℕ → Rule
  -- the one, then the other
  ◌⨾◌ : Rule → Rule → Rule
  -- the one or the other
  ◌or◌ : Rule → Rule → Rule
  -- X, where X is either the last part, or one step and then X again
  repeated : Rule → Rule → Rule
  -- whether two rules are equal can be computed
  deriving Discrete as Rule-discrete

-- `[ x ]`: x, or nothing
abbrev pub optional : Rule → Rule
optional x = empty or x

-- `x*`: any number of x
abbrev pub zero_or_more : Rule → Rule
zero_or_more x = repeated x empty

-- x parted by a separator, at least one
abbrev pub parted : Rule → Rule → Rule
parted separator x = x ⨾ zero_or_more (separator ⨾ x)

-- A repeated part: some steps, one after the other, and then the last part.
pub data Steps (S L : Type 0) : Type 0 where
  last : L → Steps S L
  step : S → Steps S L → Steps S L

-- A tree: each choice made and each number of repeats.
abbrev pub Tree : Rule → Type 0
Tree never = ⊥
Tree empty = Unit {0}
Tree (token c) = Unit {0}
Tree (r ⨾ s) = Tree r × Tree s
Tree (r or s) = Tree r ⊎ Tree s
Tree (repeated r s) = Steps (Tree r) (Tree s)

-- what the steps of a repeated part yield, one after the other
abbrev pub in_order : {S L X : Type 0} → (S → List X) → (L → List X) → Steps S L → List X
in_order f g (last t) = g t
in_order f g (step s more) = f s ++ in_order f g more

-- the classes that a tree names, from left to right
abbrev pub yield : (r : Rule) → Tree r → List ℕ
yield never t = absurd t
yield empty t = []
yield (token c) t = c ∷ []
yield (r ⨾ s) t = yield r t.0 ++ yield s t.1
yield (r or s) (inl t) = yield r t
yield (r or s) (inr t) = yield s t
yield (repeated r s) t = in_order (yield r) (yield s) t
