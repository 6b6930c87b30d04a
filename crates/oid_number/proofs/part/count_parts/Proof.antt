-- `count_parts` is right by the law of the loop that counts hits.
-- Assumes nothing.
use mathlib.Core.Path.{sym, ◌∙◌}
use Prim.Native.Nat.{◌-◌}
use native.Mathlib.Omega.{arith}
use Rattle.index.proofs.Collected.{Counting, counting_start, counting_miss, counting_hit, counting_end}
use Rattle.oid_number.specs.Number.{is_number, number_tokens}
use Rattle.oid_number.proofs.part.count_parts.Statement.{statement}
use Rattle.oid_number.proofs.part.count_parts.Tie as tie

abbrev invariant-loop : tie.invariant-loop-i
invariant-loop classes to count₀ i₀ count i = Counting (is_number classes) i₀ to i count

abbrev decreases-loop : tie.decreases-loop-i
decreases-loop classes to count₀ i₀ count i = to - i

loop-holds : tie.Need-loop-i-init invariant-loop decreases-loop
loop-holds c = counting_start _ _ _

is-number-requires : tie.Need-is_number-requires invariant-loop decreases-loop
is-number-requires c κs = tt

add-count : tie.Need-overflow_add-count invariant-loop decreases-loop
add-count c = omega (arith, c.loop-i-test.true, c.loop-i.invariant.few)

add-i : tie.Need-overflow_add-i invariant-loop decreases-loop
add-i c = omega (arith, c.loop-i-test.true)

loop-less : tie.Need-loop-i-smaller-then-is_number invariant-loop decreases-loop
loop-less c = omega (arith, c.loop-i-test.true)

loop-again : tie.Need-loop-i-preserved-then-is_number invariant-loop decreases-loop
loop-again c =
    let t = c in
    counting_hit _ _ _ _ _ t.loop-i.invariant t.loop-i-test.true (sym c.is_number.ensures ∙ c.if-is_number.true)

add-i-2 : tie.Need-overflow_add-i-else-is_number invariant-loop decreases-loop
add-i-2 c = omega (arith, c.loop-i-test.true)

loop-less-2 : tie.Need-loop-i-smaller invariant-loop decreases-loop
loop-less-2 c = omega (arith, c.loop-i-test.true)

loop-again-2 : tie.Need-loop-i-preserved invariant-loop decreases-loop
loop-again-2 c =
    let t = c in
    counting_miss _ _ _ _ _ t.loop-i.invariant t.loop-i-test.true (sym c.is_number.ensures ∙ c.if-is_number.false)

returns : tie.Need-returns invariant-loop decreases-loop
unfolding number_tokens
returns c = counting_end _ _ _ _ _ c.loop-i.invariant c.loop-i-test.false

pub count_parts_spec : {M : Type 1} → statement M
count_parts_spec =
    tie.close
    (tie.spec
    invariant-loop
    decreases-loop
    loop-holds
    is-number-requires
    add-count
    add-i
    loop-less
    loop-again
    add-i-2
    loop-less-2
    loop-again-2
    returns)
