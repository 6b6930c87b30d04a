-- The bytes that came lie in the buffer, and each turn brings some more or ends the loop.
use Rattle.std.proofs.Common.{◌≤◌, ◌-◌, length}
use Rattle.command.proofs.file.read_all.Given as goal

abbrev pub invariant-loop-n : goal.invariant-loop-n
invariant-loop-n g l = l.n ≤ length l.buf

abbrev pub decreases-loop-n : goal.decreases-loop-n
decreases-loop-n g l = length l.buf - l.n
