-- To pass over a line leaves its number.
-- Assumes nothing.
use Rattle.std.proofs.Common.{◌≡◌}
use Rattle.command.proofs.line.Lines.skip_line.Given as goal

abbrev pub invariant-loop : goal.invariant-loop
invariant-loop g l = l.self.number ≡ l.fn.self.number
