-- `numbers_used` is right: each turn counts one definition more, and none has more than all.
-- Assumes nothing.
use mathlib.Core.Path.{◌≡◌, sym, ap, ◌∙◌}
use Prim.Native.Nat.{◌+◌, ◌-◌, ◌≤◌}
use native.Mathlib.Omega.{arith}
use lib.ListN.{length}
use Rattle.module_table.specs.declared.Definition.{Definition}
use Rattle.module_table.specs.Definition.{definitions_in}
use Rattle.oid_tree.specs.Refusal.{most_numbers, counts_before}
use Rattle.reader.proofs.Counting.{none_counted, one_more, counts_grow}
use Rattle.reader.proofs.module.numbers_used.Statement.{statement}
use Rattle.reader.proofs.module.numbers_used.Tie as tie

abbrev invariant-loop : tie.invariant-loop-k
invariant-loop definitions count used₀ k₀ used k = (k ≤ count) × (used ≡ counts_before (definitions_in definitions) k)

abbrev decreases-loop : tie.decreases-loop-k
decreases-loop definitions count used₀ k₀ used k = count - k

abbrev turn : tie.After-struct_known-1 invariant-loop decreases-loop → tie.In-loop-k invariant-loop decreases-loop
turn c = c.before.before

abbrev start : tie.In-loop-k invariant-loop decreases-loop → tie.Start invariant-loop decreases-loop
start t = t.before.before.before.before

-- one definition more
next : (c : tie.After-struct_known-1 invariant-loop decreases-loop)
    → (turn c).loop-k.used + c.definition_at-d.result.count ≡ counts_before (definitions_in (start (turn c)).args.definitions.now) ((turn c).loop-k.k + 1)
next c =
    let t = turn c in
    let ds = definitions_in (start t).args.definitions.now in
    let its = ap (λ (d : Definition). d.count) c.definition_at-d.ensures in
    omega (arith, t.loop-k.invariant.1, its, one_more ds t.loop-k.k)

few : (c : tie.After-struct_known-1 invariant-loop decreases-loop) → (turn c).loop-k.used + c.definition_at-d.result.count ≤ most_numbers
few c =
    let t = turn c in
    let s = start t in
    let ds = definitions_in s.args.definitions.now in
    omega (arith, next c, counts_grow ds (t.loop-k.k + 1) (length ds) (omega (arith, t.loop-k-test.true, t.count-count.ensures)), s.requires)

count-requires : tie.Need-count-count-requires invariant-loop decreases-loop
count-requires c κs = tt

loop-holds : tie.Need-loop-k-init invariant-loop decreases-loop
loop-holds c = (omega arith, sym (none_counted (definitions_in c.args.definitions.now)))

definition-at-requires : tie.Need-definition_at-d-requires invariant-loop decreases-loop
definition-at-requires c κs = tt

add-used : tie.Need-overflow_add-used invariant-loop decreases-loop
add-used c = omega (arith, few c)

add-k : tie.Need-overflow_add-k invariant-loop decreases-loop
add-k c = omega (arith, (turn c).loop-k-test.true)

loop-less : tie.Need-loop-k-smaller invariant-loop decreases-loop
loop-less c = omega (arith, (turn c).loop-k-test.true)

loop-again : tie.Need-loop-k-preserved invariant-loop decreases-loop
loop-again c = (omega (arith, (turn c).loop-k-test.true), next c)

returns : tie.Need-returns invariant-loop decreases-loop
returns c =
    let l = c in
    let ds = definitions_in l.args.definitions.now in
    let all : l.loop-k.k ≡ length ds = omega (arith, l.loop-k.invariant.0, c.loop-k-test.false, l.count-count.ensures) in
    l.loop-k.invariant.1 ∙ ap (counts_before ds) all

pub numbers_used_spec : {M : Type 1} → statement M
numbers_used_spec =
    tie.close
    (tie.spec
    invariant-loop
    decreases-loop
    count-requires
    loop-holds
    definition-at-requires
    add-used
    add-k
    loop-less
    loop-again
    returns)
