-- `store_parents` is right by the law of the loop that changes each definition in turn.
-- Assumes nothing.
use mathlib.Core.Path.{ap, ◌∙◌}
use borrow.Author.Rules.{rules}
use Prim.Native.Nat.{◌-◌, ◌≤◌}
use native.Mathlib.Omega.{arith}
use Rattle.module_table.proofs.Filled.{Filling, filling_start, filling_more, filling_end}
use Rattle.object_tree.specs.Tree.{with_parents_of}
use Rattle.object_tree.proofs.parent.store_parents.Statement.{statement}
use Rattle.object_tree.proofs.parent.store_parents.Tie as tie

abbrev invariant-loop : tie.invariant-loop-k
invariant-loop definitions₀ parents n k₀ definitions k = (k ≤ n) × Filling (with_parents_of parents) definitions₀ k definitions

abbrev decreases-loop : tie.decreases-loop-k
decreases-loop definitions₀ parents n k₀ definitions k = n - k

count-requires : tie.Need-count-n-requires invariant-loop decreases-loop
count-requires c κs = search rules

loop-holds : tie.Need-loop-k-init invariant-loop decreases-loop
loop-holds c = (omega arith, filling_start _ _)

definition-at-requires : tie.Need-definition_at-d-requires invariant-loop decreases-loop
definition-at-requires c κs = search rules

mul-with-parent : tie.Need-offset_bounds-parents-k invariant-loop decreases-loop
mul-with-parent c = search rules

element-copy-out-with-parent : tie.Need-bounds-parents-k invariant-loop decreases-loop
element-copy-out-with-parent c = search rules

with-parent-requires : tie.Need-with_parent-requires invariant-loop decreases-loop
with-parent-requires c κs = search rules

store-requires : tie.Need-store-requires invariant-loop decreases-loop
store-requires c κs = search rules

add-k : tie.Need-overflow_add-k invariant-loop decreases-loop
add-k c = search rules

loop-less : tie.Need-loop-k-smaller invariant-loop decreases-loop
loop-less c = search rules

loop-again : tie.Need-loop-k-preserved invariant-loop decreases-loop
loop-again c =
    let stored = c in
    let made = stored in
    let read = made in
    let t = read in
    let l = t in
    let s = l in (
      omega (arith, t.loop-k-test.true),
      filling_more _ _ _ _ _ _ l.loop-k.invariant.1 (omega (arith, t.loop-k-test.true, l.count-n.ensures)) stored.store.ensures
          (made.with_parent.ensures ∙ ap (with_parents_of s.args.parents.now l.loop-k.k) (read.definition_at-d.ensures ∙ l.loop-k.invariant.1.left _ (omega arith))),
    )

same_length : tie.Need-shape_of-definitions invariant-loop decreases-loop
same_length c = search rules

returns : tie.Need-returns invariant-loop decreases-loop
returns c =
    let l = c in
    filling_end _ _ _ _ l.loop-k.invariant.1 (omega (arith, c.loop-k-test.false, l.count-n.ensures))

pub store_parents_spec : {M : Type 1} → statement M
store_parents_spec =
    tie.close
    (tie.spec
    invariant-loop
    decreases-loop
    count-requires
    loop-holds
    definition-at-requires
    mul-with-parent
    element-copy-out-with-parent
    with-parent-requires
    store-requires
    add-k
    loop-less
    loop-again
    same_length
    returns)
