-- `place_of` is right by the law of the search by halves.
-- Assumes nothing.
use mathlib.Core.Path.{◌≡◌, sym, ap, ◌∙◌}
use Prim.Native.Nat.{ℕ, ◌+◌, ◌-◌, ◌/◌}
use native.Mathlib.Omega.{arith}
use Rattle.range_list.specs.Misplaced.{is_below}
use Rattle.range_list.specs.Sorted.{range_at}
use Rattle.range_list.proofs.Sorting.{Halving, halving_start, halving_up, halving_down, halving_end}
use borrow.Author.Rules.{rules}
use Rattle.range_list.proofs.sorted.place_of.Statement.{statement}
use Rattle.range_list.proofs.sorted.place_of.Tie as tie

abbrev invariant-loop : tie.invariant-loop-low
invariant-loop classes values order count token low₀ high₀ low high = Halving classes values count order token low high

abbrev decreases-loop : tie.decreases-loop-low
decreases-loop classes values order count token low₀ high₀ low high = high - low

abbrev start : tie.At-loop-low invariant-loop decreases-loop → tie.Start invariant-loop decreases-loop
start l = l.before.before.before.before

abbrev middle : tie.In-loop-low invariant-loop decreases-loop → ℕ
middle t = t.loop-low.low + (t.loop-low.high - t.loop-low.low) / 2

-- what the test says of the range in the middle
below_is : (b : tie.After-is_below invariant-loop decreases-loop) → (let t = b in let s = start t.before.before.before.before in
    b.is_below.result ≡ is_below s.args.classes.now s.args.values.now (range_at s.args.order.now (middle t.before.before.before)) s.args.token)
below_is b =
    let t = b in
    let s = start t.before.before.before.before in
    b.is_below.ensures ∙ ap (λ (i : ℕ). is_below s.args.classes.now s.args.values.now i s.args.token) b.wide_u16.ensures

loop-holds : tie.Need-loop-low-init invariant-loop decreases-loop
loop-holds c = halving_start _ _ _ _ _

sub-middle : tie.Need-overflow_sub-middle invariant-loop decreases-loop
sub-middle c = search rules

add-middle : tie.Need-overflow_add-middle invariant-loop decreases-loop
add-middle c = omega (arith, c.loop-low-test.true, c.loop-low.invariant.inside.1, (start c.before).requires.1.0)

mul-wide-u16 : tie.Need-offset_bounds-order-middle invariant-loop decreases-loop
mul-wide-u16 c = omega (arith, c.loop-low-test.true, c.loop-low.invariant.inside.1, (start c.before).requires.1.0)

shared-slice-read-wide-u16 : tie.Need-bounds-order-middle invariant-loop decreases-loop
shared-slice-read-wide-u16 c = omega (arith, c.loop-low-test.true, c.loop-low.invariant.inside.1, (start c.before.before).requires.1.1)

wide-u16-requires : tie.Need-wide_u16-requires invariant-loop decreases-loop
wide-u16-requires c κs = search rules

is-below-requires : tie.Need-is_below-requires invariant-loop decreases-loop
is-below-requires c κs =
    let t = c in
    omega (arith, c.wide_u16.ensures, t.loop-low-test.true, (start t.before.before.before).requires.0.small (middle t.before.before) (omega (arith, t.loop-low-test.true, t.loop-low.invariant.inside.1)))

add_low : tie.Need-overflow_add-low invariant-loop decreases-loop
add_low c = omega (arith, c.loop-low-test.true, c.loop-low.invariant.inside.1, (start c.before.before.before.before.before).requires.1.0)

loop-less : tie.Need-loop-low-smaller-then-is_below invariant-loop decreases-loop
loop-less c = omega (arith, c.loop-low-test.true)

loop-again : tie.Need-loop-low-preserved-then-is_below invariant-loop decreases-loop
loop-again c =
    let t = c in
    let l = t in
    halving_up _ _ _ _ _ (start l.before.before.before.before.before).requires.0 _ _ (middle t.before.before.before.before) l.loop-low.invariant (omega (arith, t.loop-low-test.true)) (omega (arith, t.loop-low-test.true)) (sym (below_is c.before) ∙ c.if-is_below.true)

loop-less-2 : tie.Need-loop-low-smaller invariant-loop decreases-loop
loop-less-2 c = omega (arith, c.loop-low-test.true)

loop-again-2 : tie.Need-loop-low-preserved invariant-loop decreases-loop
loop-again-2 c =
    let t = c in
    let l = t in
    halving_down _ _ _ _ _ (start l.before.before.before.before.before).requires.0 _ _ (middle t.before.before.before.before) l.loop-low.invariant (omega (arith, t.loop-low-test.true)) (omega (arith, t.loop-low-test.true)) (sym (below_is c.before) ∙ c.if-is_below.false)

returns : tie.Need-returns invariant-loop decreases-loop
returns c = halving_end _ _ _ _ _ _ _ c.loop-low.invariant c.loop-low-test.false

pub place_of_spec : {M : Type 1} → statement M
place_of_spec =
    tie.close
    (tie.spec
    invariant-loop
    decreases-loop
    loop-holds
    sub-middle
    add-middle
    mul-wide-u16
    shared-slice-read-wide-u16
    wide-u16-requires
    is-below-requires
    add_low
    loop-less
    loop-again
    loop-less-2
    loop-again-2
    returns)
