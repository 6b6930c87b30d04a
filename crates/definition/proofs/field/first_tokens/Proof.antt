-- `first_tokens` is right: what was found first behind a token is found first from it on, but for the token's own class.
-- Assumes nothing.
use mathlib.Core.Path.{◌≡◌, ◌∙◌}
use Prim.Native.Nat.{◌≤◌, ◌-◌}
use native.Mathlib.Omega.{arith}
use borrow.Author.Rules.{rules}
use lib.ListN.{take}
use Rattle.definition.specs.Landmark.{class_at}
use Rattle.definition.specs.Fields.{FirstTokens}
use Rattle.definition.proofs.Firsts.{firsts_start, firsts_more, firsts_other, firsts_end, later_from}
use Rattle.definition.proofs.field.first_tokens.Statement.{statement}
use Rattle.definition.proofs.field.first_tokens.Tie as tie

abbrev invariant-loop : tie.invariant-loop-i
invariant-loop classes n d e end firsts₀ i₀ firsts i = FirstTokens (take n classes) i end firsts × (d ≤ i) × (i ≤ end)

abbrev decreases-loop : tie.decreases-loop-i
decreases-loop classes n d e end firsts₀ i₀ firsts i = i - d

-- the class that was read is the token's
own : (c : tie.After-wide_byte-class invariant-loop decreases-loop) → c.wide_byte-class.result ≡ class_at (take c.args.n c.args.classes.now) (c.loop-i.i - 1)
own c = c.wide_byte-class.ensures.0 ∙ c.class_at.ensures

later-requires : tie.Need-later-end-requires invariant-loop decreases-loop
later-requires c κs = search rules

same-for-all-requires : tie.Need-same_for_all-firsts-requires invariant-loop decreases-loop
same-for-all-requires c κs = search rules

loop-holds : tie.Need-loop-i-init invariant-loop decreases-loop
loop-holds c =
    let l = c.later-end.ensures in
    (rw c.same_for_all-firsts.ensures (firsts_start _ _), later_from _ _ _ l.0 l.1, omega arith)

sub-i : tie.Need-overflow_sub-i invariant-loop decreases-loop
sub-i c = search rules

class-at-requires : tie.Need-class_at-requires invariant-loop decreases-loop
class-at-requires c κs = search rules

wide-byte-requires : tie.Need-wide_byte-class-requires invariant-loop decreases-loop
wide-byte-requires c κs = search rules

mul-firsts : tie.Need-offset_bounds-firsts-class invariant-loop decreases-loop
mul-firsts c = search rules

array-write-firsts : tie.Need-bounds-firsts-class invariant-loop decreases-loop
array-write-firsts c = search rules

loop-less : tie.Need-loop-i-smaller-then-class-lt-TERMINALS invariant-loop decreases-loop
loop-less c = search rules

loop-again : tie.Need-loop-i-preserved-then-class-lt-TERMINALS invariant-loop decreases-loop
loop-again c =
    let t = c.before.before.before in
    let l = t.before in (
      firsts_more _ _ _ _ l.loop-i.invariant.0 (omega (arith, t.loop-i-test.true)) l.loop-i.invariant.2 _ (own c.before) c.if-class-lt-TERMINALS.true,
      omega (arith, t.loop-i-test.true),
      omega (arith, l.loop-i.invariant.2),
    )

loop-less-2 : tie.Need-loop-i-smaller invariant-loop decreases-loop
loop-less-2 c = search rules

loop-again-2 : tie.Need-loop-i-preserved invariant-loop decreases-loop
loop-again-2 c =
    let t = c.before.before.before in
    let l = t.before in (
      firsts_other _ _ _ _ l.loop-i.invariant.0 (omega (arith, t.loop-i-test.true)) l.loop-i.invariant.2 (omega (arith, c.if-class-lt-TERMINALS.false, own c.before)),
      omega (arith, t.loop-i-test.true),
      omega (arith, l.loop-i.invariant.2),
    )

returns : tie.Need-returns invariant-loop decreases-loop
returns c =
    let l = c.before in
    let r = l.later-end.ensures in
    let there : l.loop-i.i ≡ c.args.d = omega (arith, c.loop-i-test.false, l.loop-i.invariant.1) in
    firsts_end _ _ _ _ _ r.0 r.1 (rw there at l.loop-i.invariant.0)

pub first_tokens_spec : {M : Type 1} → statement M
first_tokens_spec =
    tie.close
    (tie.spec
    invariant-loop
    decreases-loop
    later-requires
    same-for-all-requires
    loop-holds
    sub-i
    class-at-requires
    wide-byte-requires
    mul-firsts
    array-write-firsts
    loop-less
    loop-again
    loop-less-2
    loop-again-2
    returns)
