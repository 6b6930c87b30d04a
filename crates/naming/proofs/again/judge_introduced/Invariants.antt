-- The names of the tokens that the loop passed are in trees, and none of them breaks the rule.
-- Assumes nothing.
use Rattle.token.specs.Cut.{meanings_in}
use Rattle.scope.specs.Token.{classes_of, TokensHeld}
use Rattle.naming.proofs.Twice.{Naming}
use Rattle.naming.proofs.again.judge_introduced.Given as goal

abbrev pub invariant-loop-i : goal.invariant-loop-i
invariant-loop-i l = (t : TokensHeld l.text (classes_of (meanings_in l.text)) l.starts l.ends) → Naming l.text l.starts l.ends t l.i l.heads l.links
