-- `collect_name_clauses` is right: the lists are noted, and then each definition's clause is found.
-- Assumes nothing.
use borrow.Author.Rules.{rules}
use Prim.Native.Nat.{ℕ, ◌-◌, ◌≤◌}
use native.Mathlib.Omega.{arith}
use lib.ListN.{length-replicate, get_or-replicate}
use Rattle.module_table.specs.Definition.{definitions_in}
use Rattle.sequence_list.specs.Held.{places}
use Rattle.clause_table.specs.Held.{name_clause, ClauseTable}
use Rattle.clause_table.proofs.Clauses.{clauses_none, clauses_more, clauses_all}
use Rattle.clause_table.proofs.name_clause.collect_name_clauses.Statement.{statement}
use Rattle.clause_table.proofs.name_clause.collect_name_clauses.Tie as tie

abbrev invariant-loop : tie.invariant-loop-k
invariant-loop values definitions clauses₀ verdicts parents listed n k₀ clauses k = (k ≤ n) × ClauseTable (name_clause (definitions_in definitions) values) k clauses

abbrev decreases-loop : tie.decreases-loop-k
decreases-loop values definitions clauses₀ verdicts parents listed n k₀ clauses k = n - k

collect-verdicts-requires : tie.Need-collect_verdicts-requires invariant-loop decreases-loop
collect-verdicts-requires c κs = (length-replicate {A = ℕ} places 0, length-replicate {A = ℕ} places 0)

collect-listed-requires : tie.Need-collect_listed-requires invariant-loop decreases-loop
collect-listed-requires c κs = (length-replicate {A = ℕ} places 0, λ number h. get_or-replicate {A = ℕ} places number 0 0 h)

count-requires : tie.Need-count-n-requires invariant-loop decreases-loop
count-requires c κs = search rules

loop-holds : tie.Need-loop-k-init invariant-loop decreases-loop
loop-holds c = (omega arith, clauses_none _ _ c.requires.1)

name-clause-requires : tie.Need-name_clause-requires invariant-loop decreases-loop
name-clause-requires c κs =
    let t = c in
    let l = t in
    let n = l in
    let v = n in
    let s = v in
    (v.collect_verdicts.ensures, (n.collect_listed.ensures, omega (arith, t.loop-k-test.true, l.count-n.ensures, s.requires.0)))

element-write-clauses : tie.Need-bounds-clauses-k invariant-loop decreases-loop
element-write-clauses c =
    let t = c in
    let l = t in
    let s = l in
    omega (arith, t.loop-k-test.true, l.count-n.ensures, s.requires.0)

add-k : tie.Need-overflow_add-k invariant-loop decreases-loop
add-k c = search rules

loop-less : tie.Need-loop-k-smaller invariant-loop decreases-loop
loop-less c = search rules

loop-again : tie.Need-loop-k-preserved invariant-loop decreases-loop
loop-again c =
    let t = c in
    let l = t in
    let s = l in
    (omega (arith, t.loop-k-test.true), clauses_more _ _ _ l.loop-k.invariant.1 (omega (arith, t.loop-k-test.true, l.count-n.ensures, s.requires.0)) _ c.name_clause.ensures)

returns : tie.Need-returns invariant-loop decreases-loop
returns c =
    let l = c in
    clauses_all _ _ _ _ l.loop-k.invariant.1 (omega (arith, c.loop-k-test.false, l.count-n.ensures))

pub collect_name_clauses_spec : {M : Type 1} → statement M
collect_name_clauses_spec =
    tie.close
    (tie.spec
    invariant-loop
    decreases-loop
    collect-verdicts-requires
    collect-listed-requires
    count-requires
    loop-holds
    name-clause-requires
    element-write-clauses
    add-k
    loop-less
    loop-again
    returns)
