-- What is seen of the bytes that were passed has been written, and is short enough.
use Rattle.std.proofs.Common.{◌≡◌, ◌≤◌, ◌*◌, length}
use Rattle.buffer.specs.Buffer.{Wrote}
use Rattle.visible.specs.Visible.{visible}
use Rattle.visible.proofs.write_visible.Given as goal

abbrev pub invariant-loop-i : goal.invariant-loop-i
invariant-loop-i l = Wrote (visible l.manner l.bytes l.from l.i) 0 l.next l.initial.out l.out × (l.next ≤ 4 * l.i) × (length l.out ≡ length l.initial.out)
