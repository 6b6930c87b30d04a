-- `find_parents` is right: all definitions are chained, and then each one's parent is found.
-- Assumes nothing.
use borrow.Author.Rules.{rules}
use mathlib.Core.Path.{◌≡◌, ◌∙◌}
use Prim.Native.Nat.{ℕ, ◌-◌, ◌≤◌, ◌<◌}
use native.Mathlib.Omega.{arith}
use lib.ListN.{length, get_or, length-set}
use Rattle.chain.specs.Key.{list_key}
use Rattle.chain.proofs.Chain.{chained_none}
use Rattle.index.proofs.Collected.{filled_more}
use Rattle.module_table.specs.Definition.{definitions_in, entry}
use Rattle.module_table.specs.Module.{most_definitions, oid_in}
use Rattle.object_tree.specs.Tree.{parent_of}
use Rattle.object_tree.proofs.parent.find_parents.Statement.{statement}
use Rattle.object_tree.proofs.parent.find_parents.Tie as tie

abbrev invariant-loop : tie.invariant-loop-k
invariant-loop definitions numbers parents₀ heads links n k₀ parents k = (k ≤ n) × (length parents ≡ most_definitions) × ((j : ℕ) → j < k → get_or parents j 0 ≡ parent_of (definitions_in definitions) numbers j)

abbrev decreases-loop : tie.decreases-loop-k
decreases-loop definitions numbers parents₀ heads links n k₀ parents k = n - k

chain-definitions-requires : tie.Need-chain_definitions-requires invariant-loop decreases-loop
chain-definitions-requires c κs = (c.requires.0, chained_none (λ (k : ℕ). list_key (oid_in c.args.numbers.now (entry (definitions_in c.args.definitions.now) k))))

count-requires : tie.Need-count-n-requires invariant-loop decreases-loop
count-requires c κs = search rules

loop-holds : tie.Need-loop-k-init invariant-loop decreases-loop
loop-holds c = search rules

parent-of-requires : tie.Need-parent_of-requires invariant-loop decreases-loop
parent-of-requires c κs = search rules

mul-parents : tie.Need-offset_bounds-parents-k invariant-loop decreases-loop
mul-parents c = search rules

element-write-parents : tie.Need-bounds-parents-k invariant-loop decreases-loop
element-write-parents c = search rules

add-k : tie.Need-overflow_add-k invariant-loop decreases-loop
add-k c = search rules

loop-less : tie.Need-loop-k-smaller invariant-loop decreases-loop
loop-less c = search rules

loop-again : tie.Need-loop-k-preserved invariant-loop decreases-loop
loop-again c =
    let t = c in
    let l = t in
    let s = l in
    let old = l.loop-k.parents in
    let k = l.loop-k.k in
    let found = c.parent_of.result in
    let room : k < length old = omega (arith, t.loop-k-test.true, l.count-n.ensures, l.loop-k.invariant.1, s.requires.0) in
    (omega (arith, t.loop-k-test.true), length-set old k found ∙ l.loop-k.invariant.1, filled_more (λ (j v : ℕ). v ≡ parent_of (definitions_in s.args.definitions.now) s.args.numbers.now j) old k found l.loop-k.invariant.2 c.parent_of.ensures room)

returns : tie.Need-returns invariant-loop decreases-loop
returns c =
    let l = c in
    record { long = l.loop-k.invariant.1; entry = λ k h. l.loop-k.invariant.2 k (omega (arith, c.loop-k-test.false, l.count-n.ensures)) }

pub find_parents_spec : {M : Type 1} → statement M
find_parents_spec =
    tie.close
    (tie.spec
    invariant-loop
    decreases-loop
    chain-definitions-requires
    count-requires
    loop-holds
    parent-of-requires
    mul-parents
    element-write-parents
    add-k
    loop-less
    loop-again
    returns)
