-- `place_label` is right by the law of the walk of a token: labels that are the same have the same bits.
-- Assumes nothing.
use mathlib.Core.Path.{sym, ap, ◌∙◌}
use mathlib.Core.List.{List}
use Prim.Native.Nat.{ℕ, ◌+◌, ◌-◌, ◌<◌}
use native.Mathlib.Omega.{arith}
use lib.ListN.{length}
use borrow.Author.Rules.{rules}
use Rattle.bit_tree.specs.Bit.{name_bit}
use Rattle.enumeration.specs.Item.{spelling_in, has_label}
use Rattle.enumeration.specs.Tree.{label_turns}
use Rattle.enumeration.proofs.Placing.{Alike, label_alike, Placing, placing_start, placing_inside, placing_rises, placing_hit, placing_next, placing_hung, placing_empty}
use Rattle.enumeration.proofs.item.place_label.Statement.{statement}
use Rattle.enumeration.proofs.item.place_label.Tie as tie

abbrev invariant-loop : tie.invariant-loop-at
invariant-loop text starts ends classes links₀ base token start end at₀ d₀ links at d = Placing (label_turns (spelling_in text starts ends)) (has_label (spelling_in text starts ends) classes) base token links₀ links d at

abbrev decreases-loop : tie.decreases-loop-at
decreases-loop text starts ends classes links₀ base token start end at₀ d₀ links at d = token - base + 1 - at

abbrev start_of : tie.At-loop-at invariant-loop decreases-loop → tie.Start invariant-loop decreases-loop
start_of l = l.before.before.before.before.before.before.before.before

-- what is alike
alike : (s : tie.Start invariant-loop decreases-loop) → (let a = s.args in Alike a.classes.now (label_turns (spelling_in a.text.now a.starts.now a.ends.now)) (has_label (spelling_in a.text.now a.starts.now a.ends.now) a.classes.now))
alike s = label_alike (spelling_in s.args.text.now s.args.starts.now s.args.ends.now) s.args.classes.now

-- the walk is at a token before
inside : (t : tie.In-loop-at invariant-loop decreases-loop) → t.loop-at.at - 1 < (start_of t.before).args.item.token - (start_of t.before).args.item.base
inside t = placing_inside _ _ _ _ _ (start_of t.before).requires.0 _ (alike (start_of t.before)) _ _ _ t.loop-at.invariant t.loop-at-test.true

-- and goes on to a later one
rises : (c : tie.Else-next-eq0 invariant-loop decreases-loop)
    → (let t = c in
    (t.loop-at.at - 1 < c.child-next.result) × (c.child-next.result < (start_of t.before.before.before.before.before.before).args.item.token - (start_of t.before.before.before.before.before.before).args.item.base))
rises c =
    let b = c in
    let t = b in
    placing_rises _ _ _ _ _ (start_of t.before.before.before.before.before.before).requires.0 _ (alike (start_of t.before.before.before.before.before.before)) _ _ _ t.loop-at.invariant t.loop-at-test.true b.name_bit-side.result _ c.child-next.ensures c.if-next-eq0.false

part-of-requires : tie.Need-part_of-part-requires invariant-loop decreases-loop
part-of-requires c κs = search rules

sub-lesser : tie.Need-overflow_sub-token invariant-loop decreases-loop
sub-lesser c = search rules

lesser-requires : tie.Need-lesser-at-requires invariant-loop decreases-loop
lesser-requires c κs = search rules

loop-holds : tie.Need-loop-at-init invariant-loop decreases-loop
loop-holds c = placing_start _ _ _ _ _ _ c.lesser-at.ensures

sub-j : tie.Need-overflow_sub-j invariant-loop decreases-loop
sub-j c = omega (arith, c.loop-at-test.true)

add-has-label : tie.Need-overflow_add-base invariant-loop decreases-loop
add-has-label c = omega (arith, inside c, (start_of c.before).requires.0.after, (start_of c.before).requires.1.0.1)

has-label-requires : tie.Need-has_label-requires invariant-loop decreases-loop
has-label-requires c κs = search rules

same_length : tie.Need-shape_of-links-then-has_label invariant-loop decreases-loop
same_length c = ap length c.loop-at.invariant.kept

returns : tie.Need-returns-then-has_label invariant-loop decreases-loop
returns c =
    let t = c in
    let s = start_of t.before.before.before in
    (ap length t.loop-at.invariant.kept, placing_hit _ _ _ _ _ s.requires.0 _ (alike s) _ _ _ t.loop-at.invariant t.loop-at-test.true (sym c.has_label.ensures ∙ c.if-has_label.true))

name-bit-requires : tie.Need-name_bit-side-requires invariant-loop decreases-loop
name-bit-requires c κs = c.part_of-part.ensures.0

child-requires : tie.Need-child-next-requires invariant-loop decreases-loop
child-requires c κs =
    let t = c in
    omega (arith, inside t.before.before.before, ap length t.loop-at.invariant.kept, (start_of t.before.before.before.before).requires.1.0.0)

sub-hang : tie.Need-overflow_sub-token-then-next-eq0 invariant-loop decreases-loop
sub-hang c =
    let t = c in
    omega (arith, (start_of t.before.before.before.before.before.before.before).requires.0.after)

hang-requires : tie.Need-hang-requires invariant-loop decreases-loop
hang-requires c κs =
    let n = c in
    let t = n in
    let s = start_of t.before.before.before.before.before.before.before in
    ((inside t.before.before.before.before.before.before, omega (arith, ap length t.loop-at.invariant.kept, s.requires.1.0.0), omega (arith, s.requires.1.0.1)), sym n.child-next.ensures ∙ c.if-next-eq0.true)

same-length-2 : tie.Need-shape_of-links-then-next-eq0 invariant-loop decreases-loop
same-length-2 c = c.hang.ensures.0 ∙ ap length c.loop-at.invariant.kept

returns-2 : tie.Need-returns-then-next-eq0 invariant-loop decreases-loop
returns-2 c =
    let h = c in
    let n = h in
    let b = n in
    let t = b in
    let s = start_of t.before.before.before.before.before.before.before.before.before.before in
    (h.hang.ensures.0 ∙ ap length t.loop-at.invariant.kept, placing_hung _ _ _ _ _ s.requires.0 _ (alike s) _ _ _ t.loop-at.invariant t.loop-at-test.true (sym b.has_label.ensures ∙ b.if-has_label.false) _ (b.name_bit-side.ensures ∙ ap (λ (x : List ℕ). name_bit x t.loop-at.d) t.part_of-part.ensures.1) (sym n.child-next.ensures ∙ h.if-next-eq0.true) s.requires.1.1 _ h.hang.ensures.1)

add_at : tie.Need-overflow_add-at invariant-loop decreases-loop
add_at c =
    let t = c in
    omega (arith, (rises c).1, (start_of t.before.before.before.before.before.before).requires.1.0.1)

add-d : tie.Need-overflow_add-d invariant-loop decreases-loop
add-d c =
    let t = c in
    omega (arith, inside t.before.before.before.before.before, t.loop-at.invariant.rising, t.loop-at-test.true, (start_of t.before.before.before.before.before.before).requires.1.0.1)

loop-less : tie.Need-loop-at-smaller invariant-loop decreases-loop
loop-less c =
    let t = c in
    omega (arith, (rises c).0, (rises c).1, inside t.before.before.before.before.before, t.loop-at-test.true)

loop-again : tie.Need-loop-at-preserved invariant-loop decreases-loop
loop-again c =
    let b = c in
    let t = b in
    let s = start_of t.before.before.before.before.before.before in
    placing_next _ _ _ _ _ s.requires.0 _ (alike s) _ _ _ t.loop-at.invariant t.loop-at-test.true (sym b.has_label.ensures ∙ b.if-has_label.false) _ (b.name_bit-side.ensures ∙ ap (λ (x : List ℕ). name_bit x t.loop-at.d) t.part_of-part.ensures.1) _ c.child-next.ensures c.if-next-eq0.false

same-length-3 : tie.Need-shape_of-links invariant-loop decreases-loop
same-length-3 c = ap length c.loop-at.invariant.kept

returns-3 : tie.Need-returns invariant-loop decreases-loop
returns-3 c =
    let l = c in
    let s = start_of l.before in
    (ap length l.loop-at.invariant.kept, placing_empty _ _ _ _ _ s.requires.0 _ (alike s) _ _ _ l.loop-at.invariant c.loop-at-test.false)

pub place_label_spec : {M : Type 1} → statement M
place_label_spec =
    tie.close
    (tie.spec
    invariant-loop
    decreases-loop
    part-of-requires
    sub-lesser
    lesser-requires
    loop-holds
    sub-j
    add-has-label
    has-label-requires
    same_length
    returns
    name-bit-requires
    child-requires
    sub-hang
    hang-requires
    same-length-2
    returns-2
    add_at
    add-d
    loop-less
    loop-again
    same-length-3
    returns-3)
