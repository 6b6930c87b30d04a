-- What is read lies in the buffer.
use Rattle.std.proofs.Common.{◌≡◌, ◌≤◌, length}
use Rattle.command.specs.Within.{LinesWithin}
use Rattle.command.proofs.line.Lines.read_line.Given as goal

abbrev pub invariant-loop : goal.invariant-loop
invariant-loop g l =
    record { size : length l.buf ≡ length l.fn.buf; read : l.to ≤ length l.buf; lines : LinesWithin l.self (length l.buf); number : l.self.number ≡ l.fn.self.number }
