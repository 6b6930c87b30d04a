-- `digits_value` is right because the value is cut off at each digit as the definition cuts it off at the end.
-- Assumes nothing.
use mathlib.Core.Path.{◌≡◌}
use Prim.Native.Nat.{◌-◌, ◌≤◌, ◌<◌}
use native.Mathlib.Omega.{arith}
use lib.ListN.{length, take, drop}
use Rattle.piece.specs.Decimal.{decimal, capped}
use Rattle.piece.proofs.Decimal.{capped_none, capped_more}
use Rattle.naming.proofs.number.digits_value.Statement.{statement}
use Rattle.naming.proofs.number.digits_value.Tie as tie

abbrev invariant-loop : tie.invariant-loop-i
invariant-loop text start end i₀ value₀ i value =
    (start ≤ i) × (i ≤ end) × (value ≡ capped (decimal (take (i - start) (drop start text))))

abbrev decreases-loop : tie.decreases-loop-i
decreases-loop text start end i₀ value₀ i value = end - i

loop-holds : tie.Need-loop-i-init invariant-loop decreases-loop
loop-holds c =
    let s = c in
    (omega arith, omega arith, capped_none s.args.text.now s.args.start)

shared-slice-read-more : tie.Need-bounds-text-i invariant-loop decreases-loop
shared-slice-read-more c = omega arith

more-requires : tie.Need-more-value-requires invariant-loop decreases-loop
more-requires c κs = omega arith

add-i : tie.Need-overflow_add-i invariant-loop decreases-loop
add-i c = omega arith

loop-less : tie.Need-loop-i-smaller invariant-loop decreases-loop
loop-less c = omega arith

loop-again : tie.Need-loop-i-preserved invariant-loop decreases-loop
loop-again c =
    let l = c in
    let s = l in
    let a = s.args in
    let passed : l.loop-i.i < length a.text.now = omega arith in
    let more = capped_more a.text.now a.start l.loop-i.i l.loop-i.invariant.0 passed l.loop-i.invariant.2 c.more-value.ensures in
    (omega arith, omega arith, more)

returns : tie.Need-returns invariant-loop decreases-loop
returns c =
    let l = c in
    let a = l.args in
    let all : l.loop-i.i ≡ a.end = omega arith in
    rw (← all) l.loop-i.invariant.2

pub digits_value_spec : {M : Type 1} → statement M
digits_value_spec =
    tie.close
    (tie.spec
    invariant-loop
    decreases-loop
    loop-holds
    shared-slice-read-more
    more-requires
    add-i
    loop-less
    loop-again
    returns)
