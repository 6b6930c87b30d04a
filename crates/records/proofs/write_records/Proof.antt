-- `write_records` is right because the records of the definitions passed lie at the start, and the next one's is written to the rest
-- that is lent.
-- Assumes nothing.
use mathlib.Core.Path.{◌≡◌, sym, ap, subst, ◌∙◌}
use mathlib.Core.List.{List, ◌++◌}
use Prim.Native.Nat.{ℕ, ◌+◌, ◌-◌, ◌≤◌}
use native.Mathlib.Omega.{arith}
use lib.ListN.{length, length-append}
use borrow.Author.Rules.{rules}
use Rattle.module_table.specs.declared.Definition.{Definition}
use Rattle.module_table.specs.Definition.{definitions_in, entry}
use Rattle.overlay.specs.Writing.{Written}
use Rattle.overlay.proofs.Writing.{overlaid_length, written_none, returned, first_inside, second_room, written_both}
use Rattle.records.specs.Record.{record_of, records_before, Fits}
use Rattle.records.proofs.Words.{record_long, none_before, before_more, before_long}
use Rattle.records.proofs.write_records.Statement.{statement}
use Rattle.records.proofs.write_records.Tie as tie

abbrev invariant-loop : tie.invariant-loop-k
invariant-loop starts ends definitions records₀ count at₀ k₀ records at k =
    (k ≤ count) × Written (records_before starts ends (definitions_in definitions) k) at records₀ records

abbrev decreases-loop : tie.decreases-loop-k
decreases-loop starts ends definitions records₀ count at₀ k₀ records at k = count - k

abbrev start : tie.In-loop-k invariant-loop decreases-loop → tie.Start invariant-loop decreases-loop
start t = t.before.before.before.before.before.before.before

-- the definitions, the records before the one at hand, and its own
abbrev defined : tie.In-loop-k invariant-loop decreases-loop → List Definition
defined t = definitions_in (start t).args.definitions.now

abbrev before : tie.In-loop-k invariant-loop decreases-loop → List ℕ
before t = records_before (start t).args.starts.now (start t).args.ends.now (defined t) t.loop-k.k

abbrev own : tie.In-loop-k invariant-loop decreases-loop → List ℕ
own t = record_of (start t).args.starts.now (start t).args.ends.now (entry (defined t) t.loop-k.k)

-- there is room for it
room : (t : tie.In-loop-k invariant-loop decreases-loop) → length (before t ++ own t) ≤ length (start t).args.records.now
room t =
    let s = start t in
    let k = t.loop-k.k in
    omega (arith, length-append (before t) (own t), before_long s.args.starts.now s.args.ends.now (defined t) k, record_long s.args.starts.now s.args.ends.now (entry (defined t) k), t.loop-k-test.true, t.count-count.ensures, s.requires.0)

inside : (t : tie.In-loop-k invariant-loop decreases-loop) → t.loop-k.at ≤ length t.loop-k.records
inside t = first_inside (before t) (own t) _ _ _ (room t) t.loop-k.invariant.1

at_most : (t : tie.In-loop-k invariant-loop decreases-loop) → t.loop-k.at ≤ length (start t).args.records.now
at_most t = omega (arith, t.loop-k.invariant.1.counted, room t, length-append (before t) (own t))

abbrev turn : tie.After-slice_known-in-loop-k-1 invariant-loop decreases-loop → tie.In-loop-k invariant-loop decreases-loop
turn c = c.before.before.before.before.before.before

-- the words of the definition at hand
own_is : (c : tie.After-record_of-words invariant-loop decreases-loop) → c.record_of-words.result ≡ own c.before.before
own_is c =
    let s = start c.before.before in
    c.record_of-words.ensures ∙ ap (record_of s.args.starts.now s.args.ends.now) c.definition_at.ensures

-- both lie in the buffer when the rest has come back
next : (c : tie.After-slice_known-in-loop-k-1 invariant-loop decreases-loop)
    → Written (before (turn c) ++ own (turn c)) ((turn c).loop-k.at + c.write_record-written.result)
    (start (turn c)).args.records.now (returned (turn c).loop-k.records (turn c).loop-k.at c.write_record-written.new.records)
next c =
    let t = turn c in
    written_both (before t) (own t) _ _ _ (room t) t.loop-k.invariant.1 _ _ (rw (own_is c.before.before.before.before) at c.write_record-written.ensures)

count-requires : tie.Need-count-count-requires invariant-loop decreases-loop
count-requires c κs = tt

loop-holds : tie.Need-loop-k-init invariant-loop decreases-loop
loop-holds c =
    let s = c in
    (omega arith, written_none _ _ (none_before s.args.starts.now s.args.ends.now (definitions_in s.args.definitions.now)))

definition-at-requires : tie.Need-definition_at-requires invariant-loop decreases-loop
definition-at-requires c κs = tt

record-of-requires : tie.Need-record_of-words-requires invariant-loop decreases-loop
record-of-requires c κs =
    let t = c in
    subst Fits (sym c.definition_at.ensures) ((start t.before).requires.1 t.loop-k.k (omega (arith, t.loop-k-test.true, t.count-count.ensures)))

mul-rest : tie.Need-offset_bounds-records-at invariant-loop decreases-loop
mul-rest c = omega (arith, at_most c.before.before, (start c.before.before).well_formed.1.1.1.0)

sub-rest : tie.Need-slice_bounds-rest-count invariant-loop decreases-loop
sub-rest c = inside c.before.before

part-rest-start : tie.Need-slice_bounds-rest-start invariant-loop decreases-loop
part-rest-start c = inside c.before.before

part-rest-end : tie.Need-slice_bounds-rest-end invariant-loop decreases-loop
part-rest-end c = search rules

write-record-requires : tie.Need-write_record-written-requires invariant-loop decreases-loop
write-record-requires c κs =
    let r = c in
    let t = r in
    let s = start t.before.before.before in
    let long = record_long s.args.starts.now s.args.ends.now (entry (defined t.before.before.before) t.loop-k.k) in
    (ap length (own_is r.before) ∙ long, omega (arith, long, second_room (before t.before.before.before) (own t.before.before.before) _ _ _ (room t.before.before.before) t.loop-k.invariant.1))

add_at : tie.Need-overflow_add-at invariant-loop decreases-loop
add_at c =
    let t = turn c in
    omega (arith, (next c).counted, room t, (start t).well_formed.1.1.1.0)

add-k : tie.Need-overflow_add-k invariant-loop decreases-loop
add-k c = omega (arith, (turn c).loop-k-test.true)

loop-less : tie.Need-loop-k-smaller invariant-loop decreases-loop
loop-less c = omega (arith, (turn c).loop-k-test.true)

loop-again : tie.Need-loop-k-preserved invariant-loop decreases-loop
loop-again c =
    let t = turn c in
    let s = start t in
    (omega (arith, t.loop-k-test.true), rw (before_more s.args.starts.now s.args.ends.now (defined t) t.loop-k.k) (next c))

same_length : tie.Need-shape_of-records invariant-loop decreases-loop
same_length c =
    let l = c in
    let s = l in
    let ds = definitions_in s.args.definitions.now in
    ap length l.loop-k.invariant.1.held
    ∙ overlaid_length (records_before s.args.starts.now s.args.ends.now ds l.loop-k.k) s.args.records.now
    (omega (arith, before_long s.args.starts.now s.args.ends.now ds l.loop-k.k, l.loop-k.invariant.0, l.count-count.ensures, s.requires.0))

returns : tie.Need-returns invariant-loop decreases-loop
returns c =
    let l = c in
    let all : l.loop-k.k ≡ length (definitions_in l.args.definitions.now) =
    omega (arith, l.loop-k.invariant.0, c.loop-k-test.false, l.count-count.ensures) in
    rw (← all) l.loop-k.invariant.1

pub write_records_spec : {M : Type 1} → statement M
write_records_spec =
    tie.close
    (tie.spec
    invariant-loop
    decreases-loop
    count-requires
    loop-holds
    definition-at-requires
    record-of-requires
    mul-rest
    sub-rest
    part-rest-start
    part-rest-end
    write-record-requires
    add_at
    add-k
    loop-less
    loop-again
    same_length
    returns)
