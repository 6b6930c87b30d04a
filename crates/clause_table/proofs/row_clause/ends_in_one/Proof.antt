-- `ends_in_one` is right: the run holds the OID.
-- Assumes nothing.
use Rattle.clause_table.proofs.Rows.{last_none, last_number}
use borrow.Author.Rules.{rules}
use Rattle.clause_table.proofs.row_clause.ends_in_one.Statement.{statement}
use Rattle.clause_table.proofs.row_clause.ends_in_one.Tie as tie

run-of-requires : tie.Need-run_of-run-requires
run-of-requires c κs = search rules

returns : tie.Need-returns-then-size-eq0
returns c =
    let run = c.run_of-run.ensures in
    last_none _ _ _ _ run.inside run.held c.if-size-eq0.true

sub_at : tie.Need-overflow_sub-at
sub_at c = search rules

add_at : tie.Need-overflow_add-at
add_at c = search rules

mul-result : tie.Need-offset_bounds-numbers-at
mul-result c = search rules

shared-slice-read-result : tie.Need-bounds-numbers-at
shared-slice-read-result c = search rules

returns-2 : tie.Need-returns
returns-2 c =
    let e = c in
    let run = e.run_of-run.ensures in
    last_number _ _ _ _ run.inside run.held e.if-size-eq0.false

pub ends_in_one_spec : {M : Type 1} → statement M
ends_in_one_spec =
    tie.close
    (tie.spec
    run-of-requires
    returns
    sub_at
    add_at
    mul-result
    shared-slice-read-result
    returns-2)
