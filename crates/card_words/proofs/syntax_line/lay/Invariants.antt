-- What is laid lies in the buffer, and each turn passes some bytes of the syntax.
use Rattle.std.proofs.Common.{◌-◌, ◌≤◌, length}
use Rattle.card_words.proofs.syntax_line.lay.Given as goal

abbrev pub invariant-loop-at : goal.invariant-loop-at
invariant-loop-at l = (l.n ≤ length l.out) × (l.at ≤ length l.syntax)

abbrev pub decreases-loop-at : goal.decreases-loop-at
decreases-loop-at l = length l.syntax - l.at
