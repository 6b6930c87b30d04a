-- `earlier_holder` is right by the law of the loop that searches for the first.
-- Assumes nothing.
use mathlib.Core.Path.{sym, ◌∙◌}
use Prim.Native.Nat.{◌-◌}
use native.Mathlib.Omega.{arith}
use Rattle.index.proofs.Search.{Searched, searched_start, searched_miss, searched_hit, searched_end}
use Rattle.module_table.specs.Definition.{definitions_in}
use Rattle.oid_holder.specs.Holder.{holds_oid}
use Rattle.oid_holder.proofs.earlier_holder.Statement.{statement}
use Rattle.oid_holder.proofs.earlier_holder.Tie as tie

abbrev invariant-loop : tie.invariant-loop-j
invariant-loop definitions numbers k end j₀ j = Searched (holds_oid (definitions_in definitions) numbers k.0) 0 end j

abbrev decreases-loop : tie.decreases-loop-j
decreases-loop definitions numbers k end j₀ j = end - j

loop-holds : tie.Need-loop-j-init invariant-loop decreases-loop
loop-holds c = searched_start _ 0 _ (omega arith)

holds-oid-requires : tie.Need-holds_oid-requires invariant-loop decreases-loop
holds-oid-requires c κs = tt

returns : tie.Need-returns-then-holds_oid invariant-loop decreases-loop
returns c =
    let t = c in
    searched_hit _ _ _ _ t.loop-j.invariant t.loop-j-test.true (sym c.holds_oid.ensures ∙ c.if-holds_oid.true)

add-j : tie.Need-overflow_add-j invariant-loop decreases-loop
add-j c = omega (arith, c.loop-j-test.true)

loop-less : tie.Need-loop-j-smaller invariant-loop decreases-loop
loop-less c = omega (arith, c.loop-j-test.true)

loop-again : tie.Need-loop-j-preserved invariant-loop decreases-loop
loop-again c =
    let t = c in
    searched_miss _ _ _ _ t.loop-j.invariant t.loop-j-test.true (sym c.holds_oid.ensures ∙ c.if-holds_oid.false)

returns-2 : tie.Need-returns invariant-loop decreases-loop
returns-2 c = searched_end _ _ _ _ c.loop-j.invariant c.loop-j-test.false

pub earlier_holder_spec : {M : Type 1} → statement M
earlier_holder_spec =
    tie.close
    (tie.spec
    invariant-loop
    decreases-loop
    loop-holds
    holds-oid-requires
    returns
    add-j
    loop-less
    loop-again
    returns-2)
