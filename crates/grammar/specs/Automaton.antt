-- The run of a transition table over a class sequence. No statement of what a right answer is rests on it.
-- Assumes nothing.
use Rattle.std.specs.Prelude.{Bool, true, false, cond, List, [], ◌∷◌, ◌++◌, ℕ, zero, suc, ◌+◌, ◌*◌, eqb, ltb, get_or}
use Rattle.grammar.specs.Answer.{Verdict, derived, refused}

-- A state is a number. State 0 is dead: no derived sequence goes on from there.
pub record Automaton : Type 0 where
  pub states : ℕ
  -- the classes are the numbers below this
  pub width : ℕ
  -- the state after a token of class c in state s, at s * width + c
  pub table : List ℕ
  pub start : ℕ
  -- the state in which the sequence may end
  pub accepting : ℕ

-- the state that class c leads to, of the pairs of a class and a state: 0 where none has it
abbrev pub row_entry : ℕ → List (ℕ × ℕ) → ℕ
row_entry c [] = 0
row_entry c (p ∷ more) = elim (eqb p.0 c) [ true ↦ p.1 | false ↦ row_entry c more ]

-- the states that n classes lead to, from class c on
abbrev pub row : ℕ → ℕ → List (ℕ × ℕ) → List ℕ
row zero c pairs = []
row (suc n) c pairs = row_entry c pairs ∷ row n (suc c) pairs

-- the table of n classes whose rows have these pairs
abbrev pub dense : ℕ → List (List (ℕ × ℕ)) → List ℕ
dense n [] = []
dense n (pairs ∷ more) = row n 0 pairs ++ dense n more

-- the table's entry for class c in state s
abbrev pub target : Automaton → ℕ → ℕ → ℕ
target a s c = get_or a.table (s * a.width + c) 0

-- the state after a token of class c in state s: dead where the automaton does not have the class
abbrev pub next : Automaton → ℕ → ℕ → ℕ
next a s c = cond (ltb c a.width) (target a s c) 0

-- the verdict at the end of the sequence, by whether the state is the accepting one
abbrev pub at_the_end : Bool → Verdict
at_the_end true = derived
at_the_end false = refused 0

-- the verdict at a token, by whether it leads to the dead state
abbrev pub unless_dead : Bool → Verdict → Verdict
unless_dead true v = refused 0
unless_dead false v = v

-- a verdict on the tokens after the first, as one on them all
abbrev pub one_later : Verdict → Verdict
one_later derived = derived
one_later (refused i) = refused (suc i)

-- the verdict on what is left, from a state
unfoldable pub run_from : Automaton → ℕ → List ℕ → Verdict
run_from a s [] = at_the_end (eqb s a.accepting)
run_from a s (c ∷ ts) = unless_dead (eqb (next a s c) 0) (one_later (run_from a (next a s c) ts))

-- the verdict on a class sequence
abbrev pub run : Automaton → List ℕ → Verdict
run a ts = run_from a a.start ts
