-- The numbers that were passed have been written, and are short enough.
use Rattle.std.proofs.Common.{◌≡◌, ◌+◌, ◌≤◌, length, take}
use Rattle.buffer.specs.Buffer.{Wrote}
use Rattle.card_line.specs.Line.{pointed, pointed_room}
use Rattle.card_line.proofs.write_pointed.Given as goal

abbrev pub invariant-loop-n : goal.invariant-loop-n
invariant-loop-n l =
    Wrote (pointed (take l.n-index l.numbers)) l.at l.next l.initial.out l.out
    × (l.next ≤ l.at + pointed_room l.n-index)
    × (length l.out ≡ length l.initial.out)
