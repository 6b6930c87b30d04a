-- Derivations of token sequences, for tokens of any type that have a class, and what a right verdict on a token sequence is.
-- Document 01, "Grammar": "A derivation fixes, from module down, each choice, each number of repeats and each token; two that
-- agree in these are equal".
-- Assumes nothing.
use Rattle.std.specs.Prelude.{◌≡◌, List, [], ◌∷◌, ◌++◌, ◌⊎◌, ℕ, ◌<◌, T, eqb}
use Rattle.std.proofs.Common.{inl, inr}
use Rattle.terminal.specs.Terminal.{terminals}
use Rattle.grammar.specs.Answer.{Verdict, Derivable, ViablePrefix, RightVerdict}
use Rattle.grammar.specs.Rule.{Rule, never, empty, token, ◌⨾◌, ◌or◌, repeated, Steps, last, step, Tree, in_order}

-- the tree of a repeated part, from the trees of its steps and of its last part
abbrev pub each_step : {S L S' L' : Type 0} → (S → S') → (L → L') → Steps S L → Steps S' L'
each_step f g (last d) = last (g d)
each_step f g (step d more) = step (f d) (each_step f g more)

module _ {A : Type 0} (class : A → ℕ) where
  -- A derivation: each choice made, each number of repeats, each token, which is of the class that the rule names.
  abbrev pub Derivation : Rule → Type 0
  Derivation never = ⊥
  Derivation empty = Unit {0}
  Derivation (token c) = (a : A) × T (eqb (class a) c)
  Derivation (r ⨾ s) = Derivation r × Derivation s
  Derivation (r or s) = Derivation r ⊎ Derivation s
  Derivation (repeated r s) = Steps (Derivation r) (Derivation s)

  -- a derivation's tokens, from left to right
  abbrev pub tokens_of : (r : Rule) → Derivation r → List A
  tokens_of never d = absurd d
  tokens_of empty d = []
  tokens_of (token c) d = d.0 ∷ []
  tokens_of (r ⨾ s) d = tokens_of r d.0 ++ tokens_of s d.1
  tokens_of (r or s) (inl d) = tokens_of r d
  tokens_of (r or s) (inr d) = tokens_of s d
  tokens_of (repeated r s) d = in_order (tokens_of r) (tokens_of s) d

  -- the tree of a derivation: its choices and repeats, without its tokens
  abbrev pub tree_of : (r : Rule) → Derivation r → Tree r
  tree_of never d = d
  tree_of empty d = tt
  tree_of (token c) d = tt
  tree_of (r ⨾ s) d = (tree_of r d.0, tree_of s d.1)
  tree_of (r or s) (inl d) = inl (tree_of r d)
  tree_of (r or s) (inr d) = inr (tree_of s d)
  tree_of (repeated r s) d = each_step (tree_of r) (tree_of s) d

  -- the rule derives the token sequence ts
  abbrev pub DerivesTokens : Rule → List A → Type 0
  DerivesTokens r ts = Derivable (tokens_of r) ts

  -- some token sequence that the rule derives, of whatever length, begins with ts
  abbrev pub BeginsTokens : Rule → List A → Type 0
  BeginsTokens r ts = ViablePrefix (tokens_of r) ts

  -- v is the right verdict on the token sequence ts
  abbrev pub AnswersTokens : Rule → List A → Verdict → Type 0
  AnswersTokens r ts v = RightVerdict (tokens_of r) ts v

  -- each number below n is the class of some token
  abbrev pub Inhabited : ℕ → Type 0
  Inhabited n = (c : ℕ) → c < n → (a : A) × (class a ≡ c)

  -- each terminal is the class of some token
  abbrev pub EachTerminal : Type 0
  EachTerminal = Inhabited terminals
