-- What is read and not used yet lies in the buffer.
use Rattle.std.proofs.Common.{◌≡◌, length}
use Rattle.command.specs.Within.{LinesWithin}
use Rattle.command.proofs.line.each_line.Given as goal

abbrev pub invariant-loop : goal.invariant-loop
invariant-loop g l =
    record {
      callable : goal.F-IsAlwaysCallable g l.f;
      size : length l.buf ≡ length l.fn.buf;
      lines : LinesWithin l.lines (length l.buf);
    }
