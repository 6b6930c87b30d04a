-- `collect_row_clauses` is right: the rows are noted, and then each definition's clause is found.
-- Assumes nothing.
use borrow.Author.Rules.{rules}
use Prim.Native.Nat.{◌-◌, ◌≤◌}
use native.Mathlib.Omega.{arith}
use Rattle.module_table.specs.Definition.{definitions_in}
use Rattle.clause_table.specs.Held.{row_clause, ClauseTable}
use Rattle.clause_table.proofs.Rows.{rows_start}
use Rattle.clause_table.proofs.Clauses.{clauses_none, clauses_more, clauses_all}
use Rattle.clause_table.proofs.row_clause.collect_row_clauses.Statement.{statement}
use Rattle.clause_table.proofs.row_clause.collect_row_clauses.Tie as tie

abbrev invariant-loop : tie.invariant-loop-k
invariant-loop definitions numbers clauses₀ counts firsts n k₀ clauses k = (k ≤ n) × ClauseTable (row_clause (definitions_in definitions) numbers) k clauses

abbrev decreases-loop : tie.decreases-loop-k
decreases-loop definitions numbers clauses₀ counts firsts n k₀ clauses k = n - k

collect-rows-requires : tie.Need-collect_rows-requires invariant-loop decreases-loop
collect-rows-requires c κs = (c.requires.0, rows_start _)

count-requires : tie.Need-count-n-requires invariant-loop decreases-loop
count-requires c κs = search rules

loop-holds : tie.Need-loop-k-init invariant-loop decreases-loop
loop-holds c = (omega arith, clauses_none _ _ c.requires.1)

row-clause-requires : tie.Need-row_clause-requires invariant-loop decreases-loop
row-clause-requires c κs =
    let t = c in
    let l = t in
    let r = l in
    let s = r in
    (r.collect_rows.ensures, omega (arith, t.loop-k-test.true, l.count-n.ensures, s.requires.0))

element-write-clauses : tie.Need-bounds-clauses-k invariant-loop decreases-loop
element-write-clauses c =
    let t = c in
    let l = t in
    let s = l in
    omega (arith, t.loop-k-test.true, l.count-n.ensures, s.requires.0)

add-k : tie.Need-overflow_add-k invariant-loop decreases-loop
add-k c = search rules

loop-less : tie.Need-loop-k-smaller invariant-loop decreases-loop
loop-less c = search rules

loop-again : tie.Need-loop-k-preserved invariant-loop decreases-loop
loop-again c =
    let t = c in
    let l = t in
    let s = l in
    (omega (arith, t.loop-k-test.true), clauses_more _ _ _ l.loop-k.invariant.1 (omega (arith, t.loop-k-test.true, l.count-n.ensures, s.requires.0)) _ c.row_clause.ensures)

returns : tie.Need-returns invariant-loop decreases-loop
returns c =
    let l = c in
    clauses_all _ _ _ _ l.loop-k.invariant.1 (omega (arith, c.loop-k-test.false, l.count-n.ensures))

pub collect_row_clauses_spec : {M : Type 1} → statement M
collect_row_clauses_spec =
    tie.close
    (tie.spec
    invariant-loop
    decreases-loop
    collect-rows-requires
    count-requires
    loop-holds
    row-clause-requires
    element-write-clauses
    add-k
    loop-less
    loop-again
    returns)
