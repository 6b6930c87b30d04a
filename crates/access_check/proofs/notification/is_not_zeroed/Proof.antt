-- `is_not_zeroed` is right: the run holds the OID.
-- Assumes nothing.
use Rattle.module_table.specs.Module.{oid_in}
use native.Mathlib.Omega.{arith}
use Rattle.access_check.proofs.Faults.{run_long, next_to_last}
use borrow.Author.Rules.{rules}
use Rattle.access_check.proofs.notification.is_not_zeroed.Statement.{statement}
use Rattle.access_check.proofs.notification.is_not_zeroed.Tie as tie

run-of-requires : tie.Need-run_of-run-requires
run-of-requires c κs = search rules

sub_at : tie.Need-overflow_sub-at
sub_at c =
    let r = c in
    let s = r in
    let run = r.run_of-run.ensures in
    omega (arith, s.requires, run_long s.args.numbers.now r.run_of-run.result.from.0 r.run_of-run.result.count (oid_in s.args.numbers.now s.args.d) run.inside run.held)

add_at : tie.Need-overflow_add-at
add_at c = search rules

mul-result : tie.Need-offset_bounds-numbers-at
mul-result c = search rules

shared-slice-read-result : tie.Need-bounds-numbers-at
shared-slice-read-result c =
    let r = c in
    let s = r in
    let run = r.run_of-run.ensures in
    omega (arith, s.requires, run.inside, run_long s.args.numbers.now r.run_of-run.result.from.0 r.run_of-run.result.count (oid_in s.args.numbers.now s.args.d) run.inside run.held)

returns : tie.Need-returns
returns c =
    let run = c.run_of-run.ensures in
    next_to_last _ _ _ _ run.inside run.held c.requires

pub is_not_zeroed_spec : {M : Type 1} → statement M
is_not_zeroed_spec =
    tie.close (tie.spec
    run-of-requires
    sub_at
    add_at
    mul-result
    shared-slice-read-result
    returns)
