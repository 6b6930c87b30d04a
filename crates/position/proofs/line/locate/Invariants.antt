-- At each place the line and its start are those of the definition.
use Rattle.std.proofs.Common.{◌≡◌, ◌≤◌, ◌+◌}
use Rattle.position.specs.Line.{line_at, start_at}
use Rattle.position.proofs.line.locate.Given as goal

abbrev pub invariant-loop-i : goal.invariant-loop-i
invariant-loop-i l = (l.line ≡ line_at l.text l.i) × (l.start ≡ start_at l.text l.i) × (l.line ≤ l.i + 1) × (l.start ≤ l.i)
