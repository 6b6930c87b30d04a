-- `insert` is right by the law of the loop that moves entries.
-- Assumes nothing.
use Prim.Native.Nat.{◌-◌, ◌<◌}
use native.Mathlib.Omega.{arith}
use lib.ListN.{length, length-set}
use Rattle.range_list.proofs.Sorting.{Moving, moving_start, moving_next, moving_end}
use borrow.Author.Rules.{rules}
use Rattle.range_list.proofs.sorted.insert.Statement.{statement}
use Rattle.range_list.proofs.sorted.insert.Tie as tie

abbrev invariant-loop : tie.invariant-loop-k
invariant-loop order₀ count at token k₀ order k = Moving order₀ count at k order

abbrev decreases-loop : tie.decreases-loop-k
decreases-loop order₀ count at token k₀ order k = k - at

abbrev start : tie.At-loop-k invariant-loop decreases-loop → tie.Start invariant-loop decreases-loop
start l = l.before

-- the entry that is written is inside
inside : (t : tie.In-loop-k invariant-loop decreases-loop) → t.loop-k.k < length t.loop-k.order
inside t = omega (arith, t.loop-k.invariant.inside.1, t.loop-k.invariant.long, (start t.before).requires.1)

loop-holds : tie.Need-loop-k-init invariant-loop decreases-loop
loop-holds c = moving_start _ _ _ c.requires.0 c.requires.1

sub_order : tie.Need-overflow_sub-order invariant-loop decreases-loop
sub_order c = omega (arith, c.loop-k-test.true)

mul-order : tie.Need-offset_bounds-order-k invariant-loop decreases-loop
mul-order c = omega (arith, c.loop-k-test.true, c.loop-k.invariant.inside.1, (start c.before).requires.1, (start c.before).well_formed.0.0)

slice-read-order : tie.Need-bounds-order-k invariant-loop decreases-loop
slice-read-order c = omega (arith, inside c.before)

mul-order-2 : tie.Need-offset_bounds-order-k-in-loop-k invariant-loop decreases-loop
mul-order-2 c = omega (arith, inside c.before, (start c.before.before).well_formed.0.0)

slice-write-order : tie.Need-bounds-order-k-in-loop-k invariant-loop decreases-loop
slice-write-order c = omega (arith, inside c.before)

sub-k : tie.Need-overflow_sub-k invariant-loop decreases-loop
sub-k c = search rules

loop-less : tie.Need-loop-k-smaller invariant-loop decreases-loop
loop-less c = omega (arith, c.loop-k-test.true)

loop-again : tie.Need-loop-k-preserved invariant-loop decreases-loop
loop-again c =
    let l = c in
    moving_next _ _ _ (start l.before.before).requires.0 (start l.before.before).requires.1 _ _ l.loop-k.invariant c.loop-k-test.true

cast-order : tie.Need-overflow_cast-order invariant-loop decreases-loop
cast-order c = omega (arith, (start c.before).requires.2)

mul-order-3 : tie.Need-offset_bounds-order-at invariant-loop decreases-loop
mul-order-3 c = search rules

slice-write-order-2 : tie.Need-bounds-order-at invariant-loop decreases-loop
slice-write-order-2 c = omega (arith, c.loop-k.invariant.long, (start c.before).requires.0, (start c.before).requires.1)

same_length : tie.Need-shape_of-order invariant-loop decreases-loop
same_length c = simp length-set c.loop-k.invariant.long

returns : tie.Need-returns invariant-loop decreases-loop
returns c =
    let l = c in
    (simp length-set l.loop-k.invariant.long, moving_end _ _ _ (start l.before).requires.0 (start l.before).requires.1 _ _ l.loop-k.invariant c.loop-k-test.false _)

pub insert_spec : {M : Type 1} → statement M
insert_spec =
    tie.close
    (tie.spec
    invariant-loop
    decreases-loop
    loop-holds
    sub_order
    mul-order
    slice-read-order
    mul-order-2
    slice-write-order
    sub-k
    loop-less
    loop-again
    cast-order
    mul-order-3
    slice-write-order-2
    same_length
    returns)
