-- What is laid stands below the bytes that were passed, and is no longer.
use Rattle.std.proofs.Common.{◌≡◌, ◌≤◌, take}
use Rattle.position.specs.Margin.{margin}
use Rattle.position.proofs.margin.write_margin.Given as goal

abbrev pub invariant-loop-i : goal.invariant-loop-i
invariant-loop-i l = (l.n ≤ l.i) × (take l.n l.out ≡ margin l.text l.start l.i)
