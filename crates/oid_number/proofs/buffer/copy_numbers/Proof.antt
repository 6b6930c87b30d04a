-- `copy_numbers` is right by the law of the loop that copies numbers to behind them.
-- Assumes nothing.
use Prim.Native.Nat.{◌-◌}
use native.Mathlib.Omega.{arith}
use lib.ListN.{length}
use mathlib.Core.Path.{◌≡◌}
use Rattle.oid_number.proofs.Laid.{Copying, copying_start, copying_length, copying_more, copying_end}
use Rattle.oid_number.proofs.buffer.copy_numbers.Statement.{statement}
use Rattle.oid_number.proofs.buffer.copy_numbers.Tie as tie

abbrev invariant-loop : tie.invariant-loop-j
invariant-loop numbers₀ count a b j₀ numbers j = Copying numbers₀ a b count j numbers

abbrev decreases-loop : tie.decreases-loop-j
decreases-loop numbers₀ count a b j₀ numbers j = count - j

abbrev start : tie.In-loop-j invariant-loop decreases-loop → tie.Start invariant-loop decreases-loop
start t = t.before.before

as_long : (t : tie.In-loop-j invariant-loop decreases-loop) → length t.loop-j.numbers ≡ length (start t).args.numbers.now
as_long t = copying_length _ _ _ _ (start t).requires.0 (start t).requires.1 _ _ t.loop-j.invariant

loop-holds : tie.Need-loop-j-init invariant-loop decreases-loop
loop-holds c = copying_start _ _ _ _ c.requires.0 c.requires.1

add-numbers : tie.Need-overflow_add-numbers invariant-loop decreases-loop
add-numbers c =
    let t = c in
    omega (arith, (start t).requires.0, (start t).requires.1, t.loop-j-test.true, as_long t)

mul-numbers : tie.Need-offset_bounds-numbers-a invariant-loop decreases-loop
mul-numbers c =
    let t = c in
    omega (arith, (start t).requires.0, (start t).requires.1, t.loop-j-test.true, as_long t)

slice-read-numbers : tie.Need-bounds-numbers-a invariant-loop decreases-loop
slice-read-numbers c =
    let t = c in
    omega (arith, (start t.before).requires.0, (start t.before).requires.1, t.loop-j-test.true, as_long t.before)

add-numbers-2 : tie.Need-overflow_add-numbers-in-loop-j invariant-loop decreases-loop
add-numbers-2 c =
    let t = c in
    omega (arith, (start t.before).requires.0, (start t.before).requires.1, t.loop-j-test.true, as_long t.before)

mul-numbers-2 : tie.Need-offset_bounds-numbers-b invariant-loop decreases-loop
mul-numbers-2 c =
    let t = c in
    omega (arith, (start t.before).requires.0, (start t.before).requires.1, t.loop-j-test.true, as_long t.before)

slice-write-numbers : tie.Need-bounds-numbers-b invariant-loop decreases-loop
slice-write-numbers c =
    let t = c in
    omega (arith, (start t.before).requires.0, (start t.before).requires.1, t.loop-j-test.true, as_long t.before)

add-j : tie.Need-overflow_add-j invariant-loop decreases-loop
add-j c =
    let t = c in
    omega (arith, (start t.before).requires.0, (start t.before).requires.1, t.loop-j-test.true, as_long t.before)

loop-less : tie.Need-loop-j-smaller invariant-loop decreases-loop
loop-less c =
    let t = c in
    omega (arith, (start t.before).requires.0, (start t.before).requires.1, t.loop-j-test.true, as_long t.before)

loop-again : tie.Need-loop-j-preserved invariant-loop decreases-loop
loop-again c =
    let s = c in
    copying_more _ _ _ _ s.requires.0 s.requires.1 _ _ c.loop-j.invariant c.loop-j-test.true

same_length : tie.Need-shape_of-numbers invariant-loop decreases-loop
same_length c =
    let s = c in
    copying_length _ _ _ _ s.requires.0 s.requires.1 _ _ c.loop-j.invariant

returns : tie.Need-returns invariant-loop decreases-loop
returns c =
    let s = c in
    copying_end _ _ _ _ s.requires.0 s.requires.1 _ _ c.loop-j.invariant c.loop-j-test.false

pub copy_numbers_spec : {M : Type 1} → statement M
copy_numbers_spec =
    tie.close
    (tie.spec
    invariant-loop
    decreases-loop
    loop-holds
    add-numbers
    mul-numbers
    slice-read-numbers
    add-numbers-2
    mul-numbers-2
    slice-write-numbers
    add-j
    loop-less
    loop-again
    same_length
    returns)
