use Rattle.std.proofs.Common.{ℕ, ◌≤◌, ◌<◌, ◌-◌, true, length}
use Rattle.piece.proofs.scan.run_end.Given as goal

abbrev pub invariant-loop-i : goal.invariant-loop-i
invariant-loop-i g l =
    record {
      from : l.fn.at ≤ l.i;
      inside : l.i ≤ length l.text;
      passed : (k : ℕ) → l.fn.at ≤ k → k < l.i → goal.F-post g l.belongs k true;
    }

abbrev pub decreases-loop-i : goal.decreases-loop-i
decreases-loop-i g l = length l.text - l.i
