-- `chain_definitions` is right by the law of one entry more.
-- Assumes nothing.
use Rattle.module_table.specs.declared.Definition.{Definition}
use mathlib.Core.Path.{◌≡◌}
use mathlib.Core.Path.{sym, ap, ◌∙◌}
use Prim.Native.Nat.{ℕ, ◌-◌, ◌≤◌}
use native.Mathlib.Omega.{arith}
use lib.ListN.{length}
use Rattle.chain.specs.Chain.{Chained}
use Rattle.chain.specs.Key.{list_key}
use Rattle.chain.proofs.Keyed.{key_few}
use Rattle.module_table.specs.Definition.{definitions_in, entry}
use Rattle.module_table.specs.Module.{oid_in}
use Rattle.object_tree.proofs.parent.chain_definitions.Statement.{statement}
use Rattle.object_tree.proofs.parent.chain_definitions.Tie as tie

abbrev invariant-loop : tie.invariant-loop-k
invariant-loop definitions numbers heads₀ links₀ n k₀ heads links k = (k ≤ n) × Chained (λ (j : ℕ). list_key (oid_in numbers (entry (definitions_in definitions) j))) k heads links

abbrev decreases-loop : tie.decreases-loop-k
decreases-loop definitions numbers heads₀ links₀ n k₀ heads links k = n - k

count-requires : tie.Need-count-n-requires invariant-loop decreases-loop
count-requires c κs = tt

loop-holds : tie.Need-loop-k-init invariant-loop decreases-loop
loop-holds c = (omega arith, c.requires.1)

definition-at-requires : tie.Need-definition_at-requires invariant-loop decreases-loop
definition-at-requires c κs = tt

oid-key-requires : tie.Need-oid_key-requires invariant-loop decreases-loop
oid-key-requires c κs = tt

insert-requires : tie.Need-insert-requires invariant-loop decreases-loop
insert-requires c κs =
    let t = c in
    let s = t in
    let chained = t.loop-k.invariant.1 in
    (chained.heads_long, (chained.links_long, (omega (arith, t.loop-k-test.true, t.count-n.ensures, s.requires.0), omega (arith, c.oid_key.ensures, key_few (oid_in s.args.numbers.now c.definition_at.result)))))

add-k : tie.Need-overflow_add-k invariant-loop decreases-loop
add-k c = omega (arith, c.loop-k-test.true)

loop-less : tie.Need-loop-k-smaller invariant-loop decreases-loop
loop-less c = omega (arith, c.loop-k-test.true)

loop-again : tie.Need-loop-k-preserved invariant-loop decreases-loop
loop-again c =
    let key = c in
    let t = key in
    let s = t in (
      omega (arith, t.loop-k-test.true),
      c.insert.ensures (λ (j : ℕ). list_key (oid_in s.args.numbers.now (entry (definitions_in s.args.definitions.now) j)))
          (sym (key.oid_key.ensures ∙ ap (λ (d : Definition). list_key (oid_in s.args.numbers.now d)) key.definition_at.ensures)) t.loop-k.invariant.1,
    )

returns : tie.Need-returns invariant-loop decreases-loop
returns c =
    let l = c in
    let s = l in
    let all : l.loop-k.k ≡ length (definitions_in s.args.definitions.now) = omega (arith, l.loop-k.invariant.0, c.loop-k-test.false, l.count-n.ensures) in
    rw all at l.loop-k.invariant.1

pub chain_definitions_spec : {M : Type 1} → statement M
chain_definitions_spec =
    tie.close
    (tie.spec
    invariant-loop
    decreases-loop
    count-requires
    loop-holds
    definition-at-requires
    oid-key-requires
    insert-requires
    add-k
    loop-less
    loop-again
    returns)
