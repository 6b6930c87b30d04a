-- Whatever follows printing by the pieces in turn, from where the loop stands, follows printing the whole. The measure is the
-- octets left.
-- Assumes nothing.
use Rattle.std.proofs.Common.{◌-◌, length}
use Rattle.hint.proofs.Turns.{Printing}
use Rattle.hint.proofs.pieces.print_pieces.Given as goal

abbrev pub invariant-loop-at : goal.invariant-loop-at
invariant-loop-at l = Printing l.hint l.value l.fn.out l.out l.cursor l.at l.pos

abbrev pub decreases-loop-at : goal.decreases-loop-at
decreases-loop-at l = length l.value - l.at
