-- `collect_conventions` is right by the law of stages: it changes each definition in turn.
-- Assumes nothing.
use Rattle.type_class.specs.Stage.{convention_classed}
use Rattle.module_table.proofs.Filled.{Filling, filling_start, filling_more, filling_end}
use Rattle.module_table.specs.Definition.{definitions_in}
use borrow.Author.Rules.{rules}
use lib.ListN.{length}
use native.Mathlib.Omega.{arith}
use mathlib.Core.Path.{◌≡◌, ap, ◌∙◌}
use Prim.Native.Nat.{◌-◌, ◌≤◌}
use Rattle.type_class.proofs.fill.collect_conventions.Statement.{statement}
use Rattle.type_class.proofs.fill.collect_conventions.Tie as tie

abbrev invariant-loop : tie.invariant-loop-k
invariant-loop classes values definitions₀ n k₀ definitions k =
    Filling (λ k. λ d. convention_classed classes values d) definitions₀ k definitions × (n ≡ length (definitions_in definitions₀)) × (k ≤ n)

abbrev decreases-loop : tie.decreases-loop-k
decreases-loop classes values definitions₀ n k₀ definitions k = n - k

count-requires : tie.Need-count-n-requires invariant-loop decreases-loop
count-requires c κs = search rules

loop-holds : tie.Need-loop-k-init invariant-loop decreases-loop
loop-holds c = (filling_start _ _, c.count-n.ensures, omega arith)

definition-at-requires : tie.Need-definition_at-d-requires invariant-loop decreases-loop
definition-at-requires c κs = search rules

convention-classed-requires : tie.Need-convention_classed-requires invariant-loop decreases-loop
convention-classed-requires c κs = search rules

store-requires : tie.Need-store-requires invariant-loop decreases-loop
store-requires c κs =
    let l = c in
    omega (arith, l.loop-k.invariant.0.counted, l.loop-k.invariant.1, c.loop-k-test.true)

add-k : tie.Need-overflow_add-k invariant-loop decreases-loop
add-k c = search rules

loop-less : tie.Need-loop-k-smaller invariant-loop decreases-loop
loop-less c = search rules

loop-again : tie.Need-loop-k-preserved invariant-loop decreases-loop
loop-again c =
    let x = c in
    let l = x in
    let s = l in
    let below = x.loop-k-test.true in
    let read = x.definition_at-d.ensures ∙ l.loop-k.invariant.0.left l.loop-k.k (omega arith) in (
      filling_more _ _ _ _ _ _ l.loop-k.invariant.0 (omega (arith, l.loop-k.invariant.1, below)) c.store.ensures
          (x.convention_classed.ensures ∙ ap (convention_classed s.args.classes.now s.args.values.now) read),
      l.loop-k.invariant.1,
      omega (arith, below),
    )

same_length : tie.Need-shape_of-definitions invariant-loop decreases-loop
same_length c = c.loop-k.invariant.0.as_long

returns : tie.Need-returns invariant-loop decreases-loop
returns c =
    let i = c.loop-k.invariant in
    (filling_end _ _ _ _ i.0 (omega (arith, c.loop-k-test.false, i.1)), i.0.as_long)

pub collect_conventions_spec : {M : Type 1} → statement M
collect_conventions_spec =
    tie.close
    (tie.spec
    invariant-loop
    decreases-loop
    count-requires
    loop-holds
    definition-at-requires
    convention-classed-requires
    store-requires
    add-k
    loop-less
    loop-again
    same_length
    returns)
