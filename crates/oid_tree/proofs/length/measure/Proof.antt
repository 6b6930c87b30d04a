-- `measure` is right by the law of the loop that has each definition say where its numbers are.
-- Assumes nothing.
use Prim.Native.Nat.{◌-◌, ◌≤◌, ◌<◌}
use native.Mathlib.Omega.{arith}
use Rattle.module_table.specs.Module.{count_of}
use Rattle.oid_head.specs.Oid.{named_in}
use Rattle.oid_tree.proofs.Lengths.{longest}
use Rattle.oid_tree.proofs.Measuring.{Measuring, measuring_start, measuring_more, measuring_end, filled_countable, filled_reach, filled_few, index_few}
use Rattle.oid_tree.proofs.length.measure.Statement.{statement}
use Rattle.oid_tree.proofs.length.measure.Tie as tie

abbrev invariant-loop : tie.invariant-loop-k
invariant-loop classes values definitions₀ c start₀ k₀ definitions start k = Measuring classes values definitions₀ definitions start k

abbrev decreases-loop : tie.decreases-loop-k
decreases-loop classes values definitions₀ c start₀ k₀ definitions start k = c - k

abbrev start : tie.In-loop-k invariant-loop decreases-loop → tie.Start invariant-loop decreases-loop
start t = t.before.before.before.before.before.before

abbrev turn : tie.After-oid_length-length invariant-loop decreases-loop → tie.In-loop-k invariant-loop decreases-loop
turn l = l.before

-- the loop is at a definition, and its length is not too much
below : (t : tie.In-loop-k invariant-loop decreases-loop) → t.loop-k.k < count_of (named_in (start t).args.classes.now (start t).args.values.now (start t).args.definitions.now)
below t = omega (arith, t.loop-k-test.true, t.count-c.ensures)

counted_few : (l : tie.After-oid_length-length invariant-loop decreases-loop) → l.oid_length-length.result ≤ longest
counted_few l =
    let t = turn l in
    omega (arith, l.oid_length-length.ensures, filled_few _ _ _ _ _ _ t.loop-k.invariant (start t).requires.0 (start t).requires.1.0 t.loop-k.k)

count-requires : tie.Need-count-c-requires invariant-loop decreases-loop
count-requires c κs = tt

loop-holds : tie.Need-loop-k-init invariant-loop decreases-loop
loop-holds c = measuring_start _ _ _

oid-length-requires : tie.Need-oid_length-length-requires invariant-loop decreases-loop
oid-length-requires c κs =
    let t = c in
    let s = start t in
    let w = t.loop-k.invariant in
    (filled_countable _ _ _ _ _ _ w s.requires.0 s.requires.1.0, filled_reach _ _ _ _ _ _ w s.requires.1.1)

definition-at-requires : tie.Need-definition_at-own-requires invariant-loop decreases-loop
definition-at-requires c κs = tt

with-run-requires : tie.Need-with_run-requires invariant-loop decreases-loop
with-run-requires c κs = tt

store-requires : tie.Need-store-requires invariant-loop decreases-loop
store-requires c κs =
    let t = turn c.before.before.before in
    omega (arith, below t, t.loop-k.invariant.filling.counted)

add_start : tie.Need-overflow_add-start invariant-loop decreases-loop
add_start c =
    let l = c in
    let t = turn l.before.before.before.before.before.before in
    omega (arith, counted_few l.before.before.before.before.before.before, t.loop-k.invariant.small, index_few _ _ _ _ _ _ t.loop-k.invariant (start t).requires.0 (start t).requires.1.0 (below t))

add-k : tie.Need-overflow_add-k invariant-loop decreases-loop
add-k c =
    let t = turn c.before.before.before.before.before.before in
    omega (arith, t.loop-k-test.true)

loop-less : tie.Need-loop-k-smaller invariant-loop decreases-loop
loop-less c =
    let t = turn c.before.before.before.before.before.before in
    omega (arith, t.loop-k-test.true)

loop-again : tie.Need-loop-k-preserved invariant-loop decreases-loop
loop-again c =
    let w = c in
    let r = w in
    let l = r in
    let t = turn l.before.before.before.before.before.before in
    measuring_more _ _ _ _ _ _ t.loop-k.invariant _ l.oid_length-length.ensures (counted_few l.before.before.before.before.before.before) (below t) _ _ r.definition_at-own.ensures w.with_run.ensures _ c.store.ensures

same_length : tie.Need-shape_of-definitions invariant-loop decreases-loop
same_length c = c.loop-k.invariant.filling.as_long

returns : tie.Need-returns invariant-loop decreases-loop
returns c =
    let a = c in
    measuring_end _ _ _ _ _ _ c.loop-k.invariant (omega (arith, a.count-c.ensures, c.loop-k-test.false))

pub measure_spec : {M : Type 1} → statement M
measure_spec =
    tie.close
    (tie.spec
    invariant-loop
    decreases-loop
    count-requires
    loop-holds
    oid-length-requires
    definition-at-requires
    with-run-requires
    store-requires
    add_start
    add-k
    loop-less
    loop-again
    same_length
    returns)
