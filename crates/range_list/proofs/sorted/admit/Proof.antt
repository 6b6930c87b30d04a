-- `admit` is right by the laws of ranges in rising order.
-- Assumes nothing.
use mathlib.Core.Path.{◌≡◌, refl, sym, ◌∙◌}
use mathlib.Core.Bool.{Bool, true, false, not, ◌||◌}
use Prim.Native.Nat.{◌<◌}
use native.Mathlib.Omega.{arith}
use borrow.Author.Tests.{ltb-true, lt-ltb}
use Rattle.index.proofs.Search.{true_false}
use Rattle.sub_type.specs.Range.{starts_range}
use Rattle.range_list.specs.Misplaced.{is_backward, is_below}
use Rattle.range_list.specs.Sorted.{range_at}
use Rattle.range_list.proofs.Ranges.{wrong_pair}
use Rattle.range_list.proofs.Sorting.{gathered_skip, gathered_shared, gathered_kept, gathered_more}
use borrow.Author.Rules.{rules}
use Rattle.range_list.proofs.sorted.admit.Statement.{statement}
use Rattle.range_list.proofs.sorted.admit.Tie as tie

abbrev start : tie.After-starts_range → tie.Start
start c = c.before.before.before.before

-- a range starts at the token
starts_here : (b : tie.After-is_backward) → (let s = start b.before.before in starts_range s.args.classes.now s.args.span.to ≡ true)
starts_here b = sym b.starts_range.ensures ∙ b.if-not-starts_range.false

-- and its pair is not wrong
forward : (p : tie.After-place_of-at) → (let b = p in let s = start b.before.before.before.before in is_backward s.args.classes.now s.args.values.now s.args.span.to ≡ false)
forward p = sym p.is_backward.ensures ∙ p.if-is_backward.false

-- what the last test says
taken : (a b : Bool) → (not a || b) ≡ false → (a ≡ true) × (b ≡ false)
taken true b e = (refl, e)
taken false b e = absurd (true_false refl e)

untaken : (a b : Bool) → (not a || b) ≡ true → a ≡ true → b ≡ true
untaken true b e h = e
untaken false b e h = absurd (true_false h refl)

free : (e : tie.Else-not-is_free) → (let p = e in let s = start p.before.before.before.before.before.before in
    p.place_of-at.result < s.args.count
    → is_below s.args.classes.now s.args.values.now s.args.span.to (range_at s.args.order.now p.place_of-at.result) ≡ true)
free e h = untaken _ _ (sym e.is_free.ensures ∙ e.if-not-is_free.false) (lt-ltb _ _ h)

starts-range-requires : tie.Need-starts_range-requires
starts-range-requires c κs = search rules

returns : tie.Need-returns-then-not-starts_range
returns c =
    let s = start c.before in
    (refl, gathered_skip _ _ _ _ _ _ s.requires.0 (sym c.starts_range.ensures ∙ c.if-not-starts_range.true))

is-backward-requires : tie.Need-is_backward-requires
is-backward-requires c κs = omega (arith, (start c.before).requires.1.1)

returns-2 : tie.Need-returns-then-is_backward
returns-2 c = (refl, wrong_pair _ _ _ _ (starts_here c.before) (sym c.is_backward.ensures ∙ c.if-is_backward.true))

place-of-requires : tie.Need-place_of-at-requires
place-of-requires c κs =
    let s = start c.before.before.before in
    (s.requires.0.rising, (omega (arith, s.requires.0.few, s.requires.1.1), omega (arith, s.requires.1.0)))

is-free-requires : tie.Need-is_free-requires
is-free-requires c κs =
    let s = start c.before.before.before.before in
    (omega (arith, s.requires.1.1), omega (arith, s.requires.1.0))

same_length : tie.Need-shape_of-order-then-not-is_free
same_length c = refl

returns-3 : tie.Need-returns-then-not-is_free
returns-3 c =
    let f = c in
    let p = f in
    let b = p in
    let s = start b.before.before.before.before.before.before in
    let t = taken _ _ (sym f.is_free.ensures ∙ c.if-not-is_free.true) in
    (refl, gathered_shared _ _ _ _ _ _ s.requires.0 (starts_here b.before.before.before.before) (forward p.before.before) _ p.place_of-at.ensures (ltb-true _ _ t.0) t.1)

insert-requires : tie.Need-insert-requires
insert-requires c κs =
    let p = c in
    let s = start p.before.before.before.before.before.before.before in
    (p.place_of-at.ensures.inside, s.requires.1.0, s.requires.1.1)

add-t18 : tie.Need-overflow_add-result
add-t18 c =
    let s = start c.before.before.before.before.before.before.before.before.before.before in
    omega (arith, s.requires.0.few, s.requires.1.1)

same-length-2 : tie.Need-shape_of-order
same-length-2 c = c.insert.ensures.0

returns-4 : tie.Need-returns
returns-4 c =
    let i = c in
    let e = i in
    let p = e in
    let b = p in
    let s = start b.before.before.before.before.before.before.before.before.before.before in
    let kept = gathered_kept _ _ _ _ _ _ s.requires.0 (starts_here b.before.before.before.before.before.before.before.before) (forward p.before.before.before.before.before.before) _ p.place_of-at.ensures (free e.before.before.before.before) in
    let more = gathered_more _ _ _ _ _ _ s.requires.0 (starts_here b.before.before.before.before.before.before.before.before) (forward p.before.before.before.before.before.before) _ p.place_of-at.ensures (free e.before.before.before.before) s.requires.1.1 _ i.insert.ensures.1 in
    (i.insert.ensures.0, (kept, more))

pub admit_spec : {M : Type 1} → statement M
admit_spec =
    tie.close
    (tie.spec
    starts-range-requires
    returns
    is-backward-requires
    returns-2
    place-of-requires
    is-free-requires
    same_length
    returns-3
    insert-requires
    add-t18
    same-length-2
    returns-4)
