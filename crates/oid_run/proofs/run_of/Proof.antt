-- `run_of` is right: a start and a count that are cut to what the buffer has take the same part of it.
-- Assumes nothing.
use mathlib.Core.Path.{ap, ◌∙◌}
use Prim.Native.Nat.{ℕ, ◌-◌}
use native.Mathlib.Omega.{arith}
use lib.ListN.{length, take, drop}
use Rattle.oid_run.proofs.Clipped.{lesser_inside, part_clipped}
use borrow.Author.Rules.{rules}
use Rattle.oid_run.proofs.run_of.Statement.{statement}
use Rattle.oid_run.proofs.run_of.Tie as tie

lesser-requires : tie.Need-lesser-from-requires
lesser-requires c κs = search rules

sub-lesser : tie.Need-overflow_sub-numbers
sub-lesser c =
    let s = c in
    omega (arith, c.lesser-from.ensures, lesser_inside s.args.d.start.0 (length s.args.numbers.now))

lesser-requires-2 : tie.Need-lesser-count-requires
lesser-requires-2 c κs = search rules

returns : tie.Need-returns
returns c =
    let s = c in
    let d = s.args.d in
    let ns = s.args.numbers.now in
    let from = c.lesser-from.result in
    record {
      inside = omega (arith, c.lesser-from.ensures, c.lesser-count.ensures, lesser_inside d.start.0 (length ns), lesser_inside d.count (length ns - from));
      held = ap (λ (n : ℕ). take n (drop from ns)) c.lesser-count.ensures ∙ part_clipped ns d.start.0 d.count from c.lesser-from.ensures;
    }

pub run_of_spec : {M : Type 1} → statement M
run_of_spec = tie.close (tie.spec
    lesser-requires
    sub-lesser
    lesser-requires-2
    returns)
