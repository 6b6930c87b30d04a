-- Whatever follows the uses that are left, from where the loop stands, follows all of them.
-- Assumes nothing.
use Rattle.std.proofs.Common.{◌+◌, ◌-◌, ◌*◌, ◌≤◌, ℕ, List, Result, length}
use Rattle.hint_piece.specs.declared.BadOctet.{BadOctet}
use Rattle.hint_piece.specs.Followed.{Followed}
use Rattle.hint_piece.specs.Use.{uses}
use Rattle.hint_piece.proofs.print_uses.Given as goal

abbrev pub invariant-loop-left : goal.invariant-loop-left
invariant-loop-left l =
    ((r : Result ℕ BadOctet) (after : List ℕ)
    → Followed (uses l.left l.piece l.value l.at) l.next r l.out after → Followed (uses l.fn.count l.fn.piece l.fn.value l.fn.start) l.fn.pos r l.fn.out after)
    × (l.next + 4 * (length l.value - l.at) ≤ length l.out)
    × (l.at ≤ 1279)
