-- What is laid so far lies in the buffer.
use Rattle.std.proofs.Common.{◌≤◌, length}
use Rattle.command.proofs.argument.arguments.Given as goal

abbrev pub invariant-loop-i : goal.invariant-loop-i
invariant-loop-i g l = l.at ≤ length l.buf
