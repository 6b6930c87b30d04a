-- `admit` is right by the law of the walk through a tree.
-- Assumes nothing.
use mathlib.Core.Path.{◌≡◌, refl, sym, ap, subst, ◌∙◌}
use mathlib.Core.Bool.{Bool}
use mathlib.Core.List.{List}
use Prim.Native.Nat.{ℕ, suc, ◌+◌, ◌-◌, ◌≤◌, ◌<◌}
use native.Mathlib.Omega.{arith}
use lib.ListN.{length, get_or, length-set}
use borrow.Author.Rules.{rules}
use Rattle.lexicon.specs.Word.{same, between}
use Rattle.bit_tree.specs.Bit.{name_bit}
use Rattle.name_tree.specs.Key.{key_count, name_key}
use Rattle.name_tree.specs.Tree.{part_at}
use Rattle.name_tree.proofs.Keyed.{key_few}
use Rattle.name_tree.proofs.Naming.{Looking, looking_start, looking_next, looking_hit, looking_hung, looking_empty, looking_rises, entry_inside, entry_placed}
use Rattle.name_tree.proofs.admit.Statement.{statement}
use Rattle.name_tree.proofs.admit.Tie as tie

-- what the walk keeps: the links, the name and its key; and it rises
abbrev invariant-loop : tie.invariant-loop-at
invariant-loop text starts ends heads links₀ k start end key at₀ d₀ links at d =
    (links ≡ links₀)
    × (start ≡ get_or starts k 0)
    × (end ≡ get_or ends k 0)
    × (d ≤ at)
    × (at ≡ 0 → d ≡ 0)
    × Looking text starts ends k heads links₀ d at

abbrev decreases-loop : tie.decreases-loop-at
decreases-loop text starts ends heads links₀ k start end key at₀ d₀ links at d = k + 1 - at

abbrev start_of : tie.At-loop-at invariant-loop decreases-loop → tie.Start invariant-loop decreases-loop
start_of l = l.before.before.before.before.before.before.before.before.before.before.before.before.before

-- what the comparison and the bit are said of: the name of entry k
answer : (text starts ends : List ℕ) (k j : ℕ) {r : Bool} {start end : ℕ} → start ≡ get_or starts k 0 → end ≡ get_or ends k 0
    → r ≡ same (part_at text starts ends j) (between text start end) → same (part_at text starts ends j) (part_at text starts ends k) ≡ r
answer text starts ends k j p q e = rw (← p, ← q) (sym e)

turned : (text starts ends : List ℕ) (k d : ℕ) {r : Bool} {start end : ℕ} → start ≡ get_or starts k 0 → end ≡ get_or ends k 0
    → r ≡ name_bit (between text start end) d → r ≡ name_bit (part_at text starts ends k) d
turned text starts ends k d p q e = rw (← p, ← q) e

keyed : (text starts ends : List ℕ) (k : ℕ) {key start end : ℕ} → start ≡ get_or starts k 0 → end ≡ get_or ends k 0
    → key ≡ name_key (between text start end) → key ≡ name_key (part_at text starts ends k)
keyed text starts ends k p q e = rw (← p, ← q) e

-- the walk is at an entry
module _ (t : tie.In-loop-at invariant-loop decreases-loop) where
  looking : (let a = (start_of t.before).args in Looking a.text.now a.starts.now a.ends.now a.k a.heads.now a.links.now t.loop-at.d (suc (t.loop-at.at - 1)))
  looking = subst (λ (p : ℕ). (let a = (start_of t.before).args in Looking a.text.now a.starts.now a.ends.now a.k a.heads.now a.links.now t.loop-at.d p)) (omega (arith, t.loop-at-test.true)) t.loop-at.invariant.5

  inside : t.loop-at.at - 1 < (start_of t.before).args.k
  inside = let s = start_of t.before in (entry_inside _ _ _ _ _ _ _ _ looking s.requires.0.0 s.requires.0.1).0

-- and goes on to a later one
rises : (c : tie.Else-next-eq0 invariant-loop decreases-loop) → (let t = c in (t.loop-at.at - 1 < c.child-next.result) × (c.child-next.result < (start_of t.before.before.before.before.before.before).args.k))
rises c =
    let t = c in
    let s = start_of t.before.before.before.before.before.before in
    looking_rises _ _ _ _ _ _ _ _ (looking t.before.before.before.before.before) s.requires.0.0 s.requires.0.1 _ t.loop-at.invariant.0 c.name_bit-side.result _ c.child-next.ensures c.if-next-eq0.false

mul_wide : tie.Need-offset_bounds-starts-k invariant-loop decreases-loop
mul_wide c = search rules

shared-slice-read-wide : tie.Need-bounds-starts-k invariant-loop decreases-loop
shared-slice-read-wide c = search rules

wide-requires : tie.Need-wide-start-requires invariant-loop decreases-loop
wide-requires c κs = search rules

mul-wide-2 : tie.Need-offset_bounds-ends-k invariant-loop decreases-loop
mul-wide-2 c = search rules

shared-slice-read-wide-2 : tie.Need-bounds-ends-k invariant-loop decreases-loop
shared-slice-read-wide-2 c = search rules

wide-requires-2 : tie.Need-wide-end-requires invariant-loop decreases-loop
wide-requires-2 c κs = search rules

name-key-requires : tie.Need-name_key-key-requires invariant-loop decreases-loop
name-key-requires c κs =
    let s = c in
    rw (c.wide-start.ensures, c.wide-end.ensures) s.requires.1.0.within

mul_wide_3 : tie.Need-offset_bounds-heads-key invariant-loop decreases-loop
mul_wide_3 c = let few : c.name_key-key.result < key_count = rw c.name_key-key.ensures (key_few _) in omega arith

element-copy-out-wide : tie.Need-bounds-heads-key invariant-loop decreases-loop
element-copy-out-wide c = rw c.name_key-key.ensures (key_few _)

wide-requires-3 : tie.Need-wide-at-requires invariant-loop decreases-loop
wide-requires-3 c κs = search rules

loop-holds : tie.Need-loop-at-init invariant-loop decreases-loop
loop-holds c =
    let k = c in
    let e = k in
    let b = e in
    let s = b in
    let key = keyed s.args.text.now s.args.starts.now s.args.ends.now s.args.k b.wide-start.ensures e.wide-end.ensures k.name_key-key.ensures in
    (refl, b.wide-start.ensures, e.wide-end.ensures, omega arith, (λ z. refl), looking_start _ _ _ _ _ _ _ (c.wide-at.ensures ∙ ap (λ (h : ℕ). get_or s.args.heads.now h 0) key))

sub-j : tie.Need-overflow_sub-j invariant-loop decreases-loop
sub-j c = omega (arith, c.loop-at-test.true)

is-named-requires : tie.Need-is_named-requires invariant-loop decreases-loop
is-named-requires c κs =
    let l = c in
    let s = start_of l.before in
    (entry_placed _ _ _ _ _ _ _ _ (looking c) s.requires.0.0 s.requires.0.1, rw (l.loop-at.invariant.1, l.loop-at.invariant.2) s.requires.1.0.within)

same_length : tie.Need-shape_of-links-then-is_named invariant-loop decreases-loop
same_length c = ap length c.loop-at.invariant.0

returns : tie.Need-returns-then-is_named invariant-loop decreases-loop
returns c =
    let t = c in
    let l = t in
    let a = (start_of l.before.before.before).args in
    let hit = answer a.text.now a.starts.now a.ends.now a.k (l.loop-at.at - 1) l.loop-at.invariant.1 l.loop-at.invariant.2 c.is_named.ensures ∙ c.if-is_named.true in
    (ap length l.loop-at.invariant.0, looking_hit _ _ _ _ _ _ _ _ (looking t.before.before) hit _ (omega (arith, t.loop-at-test.true)) _)

name-bit-requires : tie.Need-name_bit-side-requires invariant-loop decreases-loop
name-bit-requires c κs =
    let l = c in
    rw (l.loop-at.invariant.1, l.loop-at.invariant.2) (start_of l.before.before.before).requires.1.0.within

child-requires : tie.Need-child-next-requires invariant-loop decreases-loop
child-requires c κs =
    let t = c in
    let s = start_of t.before.before.before.before in
    omega (arith, inside t.before.before.before, ap length t.loop-at.invariant.0, s.requires.1.1.0)

hang-requires : tie.Need-hang-requires invariant-loop decreases-loop
hang-requires c κs =
    let n = c in
    let t = n in
    let s = start_of t.before.before.before.before.before.before.before in
    ((inside t.before.before.before.before.before.before, omega (arith, ap length t.loop-at.invariant.0, s.requires.1.1.0), s.requires.1.1.1), sym n.child-next.ensures ∙ c.if-next-eq0.true)

same-length-2 : tie.Need-shape_of-links-then-next-eq0 invariant-loop decreases-loop
same-length-2 c = c.hang.ensures.0 ∙ ap length c.loop-at.invariant.0

returns-2 : tie.Need-returns-then-next-eq0 invariant-loop decreases-loop
returns-2 c =
    let h = c in
    let n = h in
    let b = n in
    let t = b in
    let s = start_of t.before.before.before.before.before.before.before.before.before.before in
    let a = s.args in
    let other = answer a.text.now a.starts.now a.ends.now a.k (t.loop-at.at - 1) t.loop-at.invariant.1 t.loop-at.invariant.2 b.is_named.ensures ∙ b.if-is_named.false in
    let side = turned a.text.now a.starts.now a.ends.now a.k t.loop-at.d t.loop-at.invariant.1 t.loop-at.invariant.2 b.name_bit-side.ensures in
    (h.hang.ensures.0 ∙ ap length t.loop-at.invariant.0, looking_hung _ _ _ _ _ _ _ _ (looking t.before.before.before.before.before.before.before.before.before) other _ side _ t.loop-at.invariant.0 (sym n.child-next.ensures ∙ h.if-next-eq0.true) s.requires.1.0 s.requires.1.1.0 _ h.hang.ensures.0 h.hang.ensures.1)

add_at : tie.Need-overflow_add-at invariant-loop decreases-loop
add_at c = omega (arith, (rises c).1, (start_of c.before.before.before.before.before.before).requires.1.1.1)

add-d : tie.Need-overflow_add-d invariant-loop decreases-loop
add-d c =
    let t = c in
    omega (arith, inside t.before.before.before.before.before, t.loop-at.invariant.3, t.loop-at-test.true, (start_of t.before.before.before.before.before.before).requires.1.1.1)

loop-less : tie.Need-loop-at-smaller invariant-loop decreases-loop
loop-less c =
    let t = c in
    omega (arith, (rises c).0, (rises c).1, inside t.before.before.before.before.before, t.loop-at-test.true)

loop-again : tie.Need-loop-at-preserved invariant-loop decreases-loop
loop-again c =
    let b = c in
    let t = b in
    let s = start_of t.before.before.before.before.before.before in
    let a = s.args in
    let other = answer a.text.now a.starts.now a.ends.now a.k (t.loop-at.at - 1) t.loop-at.invariant.1 t.loop-at.invariant.2 b.is_named.ensures ∙ b.if-is_named.false in
    let side = turned a.text.now a.starts.now a.ends.now a.k t.loop-at.d t.loop-at.invariant.1 t.loop-at.invariant.2 b.name_bit-side.ensures in
    (t.loop-at.invariant.0, t.loop-at.invariant.1, t.loop-at.invariant.2, omega (arith, (rises c).0, t.loop-at.invariant.3, t.loop-at-test.true), (λ z. absurd (omega arith)), looking_next _ _ _ _ _ _ _ _ (looking t.before.before.before.before.before) other _ side _ t.loop-at.invariant.0 _ c.child-next.ensures c.if-next-eq0.false)

mul-links : tie.Need-offset_bounds-links-k invariant-loop decreases-loop
mul-links c = search rules

slice-write-links : tie.Need-bounds-links-k invariant-loop decreases-loop
slice-write-links c = omega (arith, ap length c.loop-at.invariant.0, (start_of c.before).requires.1.1.0)

add-heads : tie.Need-overflow_add-heads invariant-loop decreases-loop
add-heads c = search rules

cast-heads : tie.Need-overflow_cast-heads invariant-loop decreases-loop
cast-heads c = search rules

mul_heads : tie.Need-offset_bounds-heads-key-2 invariant-loop decreases-loop
mul_heads c = let few : c.name_key-key.result < key_count = rw c.name_key-key.ensures (key_few _) in omega arith

element-write-heads : tie.Need-bounds-heads-key-2 invariant-loop decreases-loop
element-write-heads c = rw c.name_key-key.ensures (key_few _)

same-length-3 : tie.Need-shape_of-links invariant-loop decreases-loop
same-length-3 c = length-set c.loop-at.links _ 0 ∙ ap length c.loop-at.invariant.0

returns-3 : tie.Need-returns invariant-loop decreases-loop
returns-3 c =
    let l = c in
    let k = l in
    let e = k in
    let b = e in
    let s = start_of l.before.before in
    let key = keyed s.args.text.now s.args.starts.now s.args.ends.now s.args.k b.wide-start.ensures e.wide-end.ensures k.name_key-key.ensures in
    (length-set l.loop-at.links _ 0 ∙ ap length l.loop-at.invariant.0, looking_empty _ _ _ _ _ _ _ _ l.loop-at.invariant.5 c.loop-at-test.false l.loop-at.invariant.4 s.requires.1.0 s.requires.1.1.0 _ key _ l.loop-at.invariant.0)

pub admit_spec : {M : Type 1} → statement M
admit_spec =
    tie.close
    (tie.spec
    invariant-loop
    decreases-loop
    mul_wide
    shared-slice-read-wide
    wide-requires
    mul-wide-2
    shared-slice-read-wide-2
    wide-requires-2
    name-key-requires
    mul_wide_3
    element-copy-out-wide
    wide-requires-3
    loop-holds
    sub-j
    is-named-requires
    same_length
    returns
    name-bit-requires
    child-requires
    hang-requires
    same-length-2
    returns-2
    add_at
    add-d
    loop-less
    loop-again
    mul-links
    slice-write-links
    add-heads
    cast-heads
    mul_heads
    element-write-heads
    same-length-3
    returns-3)
