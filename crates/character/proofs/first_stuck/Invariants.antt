-- The cut from i on is stuck where the whole cut is.
-- Assumes nothing.
use Rattle.std.proofs.Common.{◌-◌, ◌≡◌}
use Rattle.character.specs.Cut.{cut, stuck_at}
use Rattle.character.proofs.CutLaws.{from}
use Rattle.character.proofs.first_stuck.Given as goal

abbrev pub invariant-loop-i : goal.invariant-loop-i
invariant-loop-i g l = stuck_at (from g.sizes l.end l.i) ≡ stuck_at (cut g.sizes l.end)

abbrev pub decreases-loop-i : goal.decreases-loop-i
decreases-loop-i g l = l.end - l.i
