use Rattle.std.proofs.Common.{◌-◌, length}
use Rattle.token.proofs.Progress.{Progress}
use Rattle.token.proofs.cut.Given as goal

abbrev pub invariant-loop-at : goal.invariant-loop-at
invariant-loop-at l = Progress l.text l.fn.classes l.fn.starts l.fn.ends l.classes l.starts l.ends l.at l.n

abbrev pub decreases-loop-at : goal.decreases-loop-at
decreases-loop-at l = length l.text - l.at
