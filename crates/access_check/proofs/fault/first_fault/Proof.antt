-- `first_fault` is right by the law of the loop that asks.
-- Assumes nothing.
use mathlib.Core.Path.{refl, sym, ap, ◌∙◌}
use Prim.Native.Nat.{ℕ, ◌-◌}
use native.Mathlib.Omega.{arith}
use lib.Dec.{ltb}
use Rattle.index.specs.First.{first}
use Rattle.module_table.specs.Definition.{definitions_in}
use Rattle.sequence_list.proofs.Asking.{Asking, asking_miss, first_asked, none_asked}
use Rattle.access_check.specs.Found.{check_clause}
use Rattle.access_check.proofs.Faults.{nonzero_breach, zero_kept}
use Rattle.access_check.proofs.fault.first_fault.Statement.{statement}
use Rattle.access_check.proofs.fault.first_fault.Tie as tie

abbrev invariant-loop : tie.invariant-loop-k
invariant-loop values definitions numbers check n k₀ k = Asking (λ (j : ℕ). ltb 0 (check_clause (definitions_in definitions) values numbers check j)) 0 n k

abbrev decreases-loop : tie.decreases-loop-k
decreases-loop values definitions numbers check n k₀ k = n - k

count-requires : tie.Need-count-n-requires invariant-loop decreases-loop
count-requires c κs = tt

loop-holds : tie.Need-loop-k-init invariant-loop decreases-loop
loop-holds c = refl

clause-at-requires : tie.Need-clause_at-requires invariant-loop decreases-loop
clause-at-requires c κs = c.requires

returns : tie.Need-returns-then-clause_at-ne0 invariant-loop decreases-loop
returns c =
    let t = c in
    let l = t in
    let s = l in
    first_asked _ _ _ _ l.loop-k.invariant t.loop-k-test.true (ap (ltb 0) (sym c.clause_at.ensures) ∙ nonzero_breach _ c.if-clause_at-ne0.true)
    ∙ ap (first (λ (j : ℕ). ltb 0 (check_clause (definitions_in s.args.definitions.now) s.args.values.now s.args.numbers.now s.args.check j)) 0) l.count-n.ensures

add-k : tie.Need-overflow_add-k invariant-loop decreases-loop
add-k c = omega (arith, c.loop-k-test.true)

loop-less : tie.Need-loop-k-smaller invariant-loop decreases-loop
loop-less c = omega (arith, c.loop-k-test.true)

loop-again : tie.Need-loop-k-preserved invariant-loop decreases-loop
loop-again c =
    let t = c in
    asking_miss _ _ _ _ t.loop-k.invariant t.loop-k-test.true (ap (ltb 0) (sym c.clause_at.ensures) ∙ zero_kept _ c.if-clause_at-ne0.false)

returns-2 : tie.Need-returns invariant-loop decreases-loop
returns-2 c =
    let l = c in
    let s = l in
    none_asked _ _ _ _ l.loop-k.invariant c.loop-k-test.false
    ∙ ap (first (λ (j : ℕ). ltb 0 (check_clause (definitions_in s.args.definitions.now) s.args.values.now s.args.numbers.now s.args.check j)) 0) l.count-n.ensures

pub first_fault_spec : {M : Type 1} → statement M
first_fault_spec =
    tie.close
    (tie.spec
    invariant-loop
    decreases-loop
    count-requires
    loop-holds
    clause-at-requires
    returns
    add-k
    loop-less
    loop-again
    returns-2)
