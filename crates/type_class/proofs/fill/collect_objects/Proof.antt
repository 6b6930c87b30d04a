-- `collect_objects` is right by the law of stages: it changes each definition in turn.
-- Assumes nothing.
use Rattle.type_class.proofs.Stages.{object_kept}
use Rattle.type_class.specs.Stage.{object_classed}
use Rattle.module_table.proofs.Filled.{Filling, filling_start, filling_more, filling_end}
use Rattle.module_table.specs.Definition.{definitions_in}
use borrow.Author.Rules.{rules}
use lib.ListN.{length}
use native.Mathlib.Omega.{arith}
use mathlib.Core.Path.{◌≡◌, ap, ◌∙◌}
use Prim.Native.Nat.{◌-◌, ◌≤◌}
use Rattle.type_class.proofs.fill.collect_objects.Statement.{statement}
use Rattle.type_class.proofs.fill.collect_objects.Tie as tie

abbrev invariant-loop : tie.invariant-loop-k
invariant-loop classes values definitions₀ n k₀ definitions k =
    Filling (λ k. λ d. object_classed classes values (definitions_in definitions₀) d) definitions₀ k definitions × (n ≡ length (definitions_in definitions₀)) × (k ≤ n)

abbrev decreases-loop : tie.decreases-loop-k
decreases-loop classes values definitions₀ n k₀ definitions k = n - k

count-requires : tie.Need-count-n-requires invariant-loop decreases-loop
count-requires c κs = search rules

loop-holds : tie.Need-loop-k-init invariant-loop decreases-loop
loop-holds c = (filling_start _ _, c.count-n.ensures, omega arith)

definition-at-requires : tie.Need-definition_at-d-requires invariant-loop decreases-loop
definition-at-requires c κs = search rules

object-classed-requires : tie.Need-object_classed-classed-requires invariant-loop decreases-loop
object-classed-requires c κs = search rules

store-requires : tie.Need-store-requires invariant-loop decreases-loop
store-requires c κs =
    let l = c in
    omega (arith, l.loop-k.invariant.0.counted, l.loop-k.invariant.1, c.loop-k-test.true)

add-k : tie.Need-overflow_add-k invariant-loop decreases-loop
add-k c = search rules

loop-less : tie.Need-loop-k-smaller invariant-loop decreases-loop
loop-less c = search rules

loop-again : tie.Need-loop-k-preserved invariant-loop decreases-loop
loop-again c =
    let x = c in
    let l = x in
    let s = l in
    let f = l.loop-k.invariant.0 in
    let below = x.loop-k-test.true in
    let read = x.definition_at-d.ensures ∙ f.left l.loop-k.k (omega arith) in
    let cs = s.args.classes.now in
    let vs = s.args.values.now in
    let kept = object_kept cs vs _ s.args.definitions.now _ _ f (omega (arith, l.loop-k.invariant.1, l.loop-k.invariant.2)) in (
      filling_more _ _ _ _ _ _ f (omega (arith, l.loop-k.invariant.1, below)) c.store.ensures
          (x.object_classed-classed.ensures ∙ kept _ ∙ ap (object_classed cs vs (definitions_in s.args.definitions.now)) read),
      l.loop-k.invariant.1,
      omega (arith, below),
    )

same_length : tie.Need-shape_of-definitions invariant-loop decreases-loop
same_length c = c.loop-k.invariant.0.as_long

returns : tie.Need-returns invariant-loop decreases-loop
returns c =
    let i = c.loop-k.invariant in
    (filling_end _ _ _ _ i.0 (omega (arith, c.loop-k-test.false, i.1)), i.0.as_long)

pub collect_objects_spec : {M : Type 1} → statement M
collect_objects_spec =
    tie.close
    (tie.spec
    invariant-loop
    decreases-loop
    count-requires
    loop-holds
    definition-at-requires
    object-classed-requires
    store-requires
    add-k
    loop-less
    loop-again
    same_length
    returns)
