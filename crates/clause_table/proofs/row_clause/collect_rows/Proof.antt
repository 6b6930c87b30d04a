-- `collect_rows` is right: each turn notes one definition more, from the last on.
-- Assumes nothing.
use borrow.Author.Rules.{rules}
use mathlib.Core.Path.{◌≡◌, sym, ap, ◌∙◌}
use Prim.Native.Nat.{suc, ◌-◌, ◌≤◌, ◌<◌}
use native.Mathlib.Omega.{arith}
use lib.ListN.{length}
use Rattle.module_table.specs.Definition.{definitions_in, entry}
use Rattle.object_tree.specs.Words.{is_row}
use Rattle.sequence_list.specs.Held.{places}
use Rattle.sequence_list.specs.Named.{type_of}
use Rattle.clause_table.specs.Held.{RowsFrom}
use Rattle.sequence_list.proofs.Marking.{type_few}
use Rattle.clause_table.proofs.Rows.{rows_pass, rows_add, count_few}
use Rattle.clause_table.proofs.row_clause.collect_rows.Statement.{statement}
use Rattle.clause_table.proofs.row_clause.collect_rows.Tie as tie

abbrev invariant-loop : tie.invariant-loop-k
invariant-loop definitions counts₀ firsts₀ k₀ counts firsts k = (k ≤ length (definitions_in definitions)) × RowsFrom (definitions_in definitions) k counts firsts

abbrev decreases-loop : tie.decreases-loop-k
decreases-loop definitions counts₀ firsts₀ k₀ counts firsts k = k

abbrev start : tie.In-loop-k invariant-loop decreases-loop → tie.Start invariant-loop decreases-loop
start t = t.before.before.before.before

-- the definition that the loop is at
here : (t : tie.In-loop-k invariant-loop decreases-loop) → t.loop-k.k ≡ suc (t.loop-k.k - 1)
here t = omega (arith, t.loop-k-test.true)

inside : (t : tie.In-loop-k invariant-loop decreases-loop) → t.loop-k.k - 1 < length (definitions_in (start t).args.definitions.now)
inside t = omega (arith, t.loop-k-test.true, t.loop-k.invariant.0)

asked : (h : tie.After-is_row invariant-loop decreases-loop) → (let t = h in h.is_row.result ≡ is_row (entry (definitions_in (start t.before.before).args.definitions.now) (t.loop-k.k - 1)))
asked h = h.is_row.ensures ∙ ap is_row h.definition_at-d.ensures

type_inside : (h : tie.After-type_of-number invariant-loop decreases-loop) → h.type_of-number.result < places
type_inside h = omega (arith, h.type_of-number.ensures, type_few h.definition_at-d.result)

count-requires : tie.Need-count-k-requires invariant-loop decreases-loop
count-requires c κs = search rules

loop-holds : tie.Need-loop-k-init invariant-loop decreases-loop
loop-holds c =
    let s = c in
    (omega (arith, c.count-k.ensures), rw (← c.count-k.ensures) at s.requires.1)

sub-k : tie.Need-overflow_sub-k invariant-loop decreases-loop
sub-k c = search rules

definition-at-requires : tie.Need-definition_at-d-requires invariant-loop decreases-loop
definition-at-requires c κs = search rules

is-row-requires : tie.Need-is_row-requires invariant-loop decreases-loop
is-row-requires c κs = search rules

type-of-requires : tie.Need-type_of-number-requires invariant-loop decreases-loop
type-of-requires c κs = search rules

mul-counts : tie.Need-offset_bounds-counts-number invariant-loop decreases-loop
mul-counts c = omega (arith, type_inside c)

element-copy-out-counts : tie.Need-bounds-counts-number invariant-loop decreases-loop
element-copy-out-counts c = type_inside c.before

add-counts : tie.Need-overflow_add-counts invariant-loop decreases-loop
add-counts c =
    let h = c in
    let t = h in
    let l = t in
    omega (arith, count_few _ _ _ _ _ l.loop-k.invariant.1 (here t.before.before.before.before.before.before) (inside t.before.before.before.before.before.before) h.type_of-number.result (type_inside h.before.before), (start t.before.before.before.before.before.before).requires.0)

element-write-counts : tie.Need-bounds-counts-number-then-is_row invariant-loop decreases-loop
element-write-counts c = type_inside c.before.before

mul-firsts : tie.Need-offset_bounds-firsts-number invariant-loop decreases-loop
mul-firsts c = omega (arith, type_inside c.before.before)

element-write-firsts : tie.Need-bounds-firsts-number invariant-loop decreases-loop
element-write-firsts c = type_inside c.before.before.before

loop-less : tie.Need-loop-k-smaller-then-is_row invariant-loop decreases-loop
loop-less c = search rules

loop-again : tie.Need-loop-k-preserved-then-is_row invariant-loop decreases-loop
loop-again c =
    let h = c in
    let r = h in
    let t = r in
    let l = t in
    (omega (arith, l.loop-k.invariant.0), rows_add _ _ _ _ _ l.loop-k.invariant.1 (here t.before.before.before.before.before.before.before) (inside t.before.before.before.before.before.before.before) (sym (asked r.before.before.before.before.before) ∙ h.if-is_row.true) _ (h.type_of-number.ensures ∙ ap type_of r.definition_at-d.ensures))

loop-less-2 : tie.Need-loop-k-smaller invariant-loop decreases-loop
loop-less-2 c = search rules

loop-again-2 : tie.Need-loop-k-preserved invariant-loop decreases-loop
loop-again-2 c =
    let t = c in
    let l = t in
    (omega (arith, l.loop-k.invariant.0), rows_pass _ _ _ _ _ l.loop-k.invariant.1 (here t.before.before.before) (inside t.before.before.before) (sym (asked c.before) ∙ c.if-is_row.false))

returns : tie.Need-returns invariant-loop decreases-loop
returns c =
    let l = c in
    let none : l.loop-k.k ≡ 0 = omega (arith, c.loop-k-test.false) in
    rw none at l.loop-k.invariant.1

pub collect_rows_spec : {M : Type 1} → statement M
collect_rows_spec =
    tie.close
    (tie.spec
    invariant-loop
    decreases-loop
    count-requires
    loop-holds
    sub-k
    definition-at-requires
    is-row-requires
    type-of-requires
    mul-counts
    element-copy-out-counts
    add-counts
    element-write-counts
    mul-firsts
    element-write-firsts
    loop-less
    loop-again
    loop-less-2
    loop-again-2
    returns)
