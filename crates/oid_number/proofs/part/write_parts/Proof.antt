-- `write_parts` is right because its loop writes the number of each token that is one, and passes the others.
-- Assumes nothing.
use mathlib.Core.Path.{◌≡◌, sym, ◌∙◌}
use mathlib.Core.Bool.{true}
use Prim.Native.Nat.{◌-◌, ◌<◌}
use native.Mathlib.Omega.{arith}
use lib.ListN.{length}
use Rattle.oid_number.specs.Number.{is_number}
use Rattle.oid_number.proofs.Parts.{WritingParts, parts_start, parts_length, part_room, parts_more, parts_pass, parts_end}
use Rattle.oid_number.proofs.part.write_parts.Statement.{statement}
use Rattle.oid_number.proofs.part.write_parts.Tie as tie

abbrev invariant-loop : tie.invariant-loop-i
invariant-loop classes values numbers₀ to i₀ count₀ numbers i count =
    WritingParts classes values (record { from = i₀; to = to }) numbers₀ i count numbers

abbrev decreases-loop : tie.decreases-loop-i
decreases-loop classes values numbers₀ to i₀ count₀ numbers i count = to - i

abbrev start : tie.In-loop-i invariant-loop decreases-loop → tie.Start invariant-loop decreases-loop
start t = t.before.before.before.before.before

here : (c : tie.Then-is_number invariant-loop decreases-loop) → is_number (start c.before.before).args.classes.now c.loop-i.i ≡ true
here c = sym c.is_number.ensures ∙ c.if-is_number.true

room : (c : tie.After-value_at invariant-loop decreases-loop) → c.loop-i.count < length c.loop-i.numbers
room c =
    let t = c in
    part_room _ _ _ _ _ _ _ (start t.before.before.before).requires t.loop-i.invariant t.loop-i-test.true (here c.before)

loop-holds : tie.Need-loop-i-init invariant-loop decreases-loop
loop-holds c = parts_start _ _ _ _

is-number-requires : tie.Need-is_number-requires invariant-loop decreases-loop
is-number-requires c κs = tt

value-at-requires : tie.Need-value_at-requires invariant-loop decreases-loop
value-at-requires c κs = tt

mul-numbers : tie.Need-offset_bounds-numbers-count invariant-loop decreases-loop
mul-numbers c = omega (arith, room c)

slice-write-numbers : tie.Need-bounds-numbers-count invariant-loop decreases-loop
slice-write-numbers c = room c

add-count : tie.Need-overflow_add-count invariant-loop decreases-loop
add-count c = omega (arith, room c)

add-i : tie.Need-overflow_add-i invariant-loop decreases-loop
add-i c = omega (arith, c.loop-i-test.true)

loop-less : tie.Need-loop-i-smaller-then-is_number invariant-loop decreases-loop
loop-less c = omega (arith, c.loop-i-test.true)

loop-again : tie.Need-loop-i-preserved-then-is_number invariant-loop decreases-loop
loop-again c =
    let t = c in
    parts_more _ _ _ _ _ _ _ (start t.before.before.before).requires t.loop-i.invariant t.loop-i-test.true (here c.before) _ c.value_at.ensures

add-i-2 : tie.Need-overflow_add-i-else-is_number invariant-loop decreases-loop
add-i-2 c = omega (arith, c.loop-i-test.true)

loop-less-2 : tie.Need-loop-i-smaller invariant-loop decreases-loop
loop-less-2 c = omega (arith, c.loop-i-test.true)

loop-again-2 : tie.Need-loop-i-preserved invariant-loop decreases-loop
loop-again-2 c =
    let t = c in
    parts_pass _ _ _ _ _ _ _ (start t.before.before).requires t.loop-i.invariant t.loop-i-test.true (sym c.is_number.ensures ∙ c.if-is_number.false)

same_length : tie.Need-shape_of-numbers invariant-loop decreases-loop
same_length c = parts_length _ _ _ _ _ _ _ c.requires c.loop-i.invariant

returns : tie.Need-returns invariant-loop decreases-loop
returns c = parts_end _ _ _ _ _ _ _ c.requires c.loop-i.invariant c.loop-i-test.false

pub write_parts_spec : {M : Type 1} → statement M
write_parts_spec =
    tie.close
    (tie.spec
    invariant-loop
    decreases-loop
    loop-holds
    is-number-requires
    value-at-requires
    mul-numbers
    slice-write-numbers
    add-count
    add-i
    loop-less
    loop-again
    add-i-2
    loop-less-2
    loop-again-2
    same_length
    returns)
