-- At i the first i bytes have been written.
-- Assumes nothing.
use Rattle.std.proofs.Common.{◌≡◌, length, take}
use Rattle.buffer.specs.Buffer.{written}
use Rattle.buffer.proofs.copy.Given as goal

abbrev pub invariant-loop-i : goal.invariant-loop-i
invariant-loop-i l = (l.out ≡ written l.fn.out l.fn.at (take l.i l.fn.s)) × (length l.out ≡ length l.fn.out)
