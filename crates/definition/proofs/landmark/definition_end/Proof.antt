-- `definition_end` is right: no token that it passed closes the definition, and the first that does stops it.
-- Assumes nothing.
use mathlib.Core.Path.{refl, sym, ◌∙◌}
use Prim.Native.Nat.{◌+◌, ◌-◌}
use native.Mathlib.Omega.{arith}
use borrow.Author.Rules.{rules}
use lib.ListN.{take}
use lib.Seq.{length-take-le}
use Rattle.definition.specs.Landmark.{closes, last_token, definition_end}
use Rattle.definition.proofs.Found.{Passed, passed_miss, passed_hit, passed_end}
use Rattle.definition.proofs.landmark.definition_end.Statement.{statement}
use Rattle.definition.proofs.landmark.definition_end.Tie as tie

abbrev invariant-loop : tie.invariant-loop-i
invariant-loop classes n d i₀ i = Passed (closes (take n classes)) (d + 1) (last_token (take n classes)) i

abbrev decreases-loop : tie.decreases-loop-i
decreases-loop classes n d i₀ i = n - 1 - i

add-i : tie.Need-overflow_add-i invariant-loop decreases-loop
add-i c = search rules

loop-holds : tie.Need-loop-i-init invariant-loop decreases-loop
loop-holds c = refl

sub-loop : tie.Need-overflow_sub-n invariant-loop decreases-loop
sub-loop c = search rules

closes-requires : tie.Need-closes-requires invariant-loop decreases-loop
closes-requires c κs = search rules

returns : tie.Need-returns-then-closes invariant-loop decreases-loop
unfolding definition_end
returns c =
    let at = c.before.before.before in
    let start = at.before.before in
    passed_hit _ _ _ _ at.loop-i.invariant
    (omega (arith, length-take-le start.args.n start.args.classes.now start.requires.0))
    (sym c.closes.ensures ∙ c.if-closes.true)

add-i-2 : tie.Need-overflow_add-i-in-loop-i invariant-loop decreases-loop
add-i-2 c = search rules

loop-less : tie.Need-loop-i-smaller invariant-loop decreases-loop
loop-less c = search rules

loop-again : tie.Need-loop-i-preserved invariant-loop decreases-loop
loop-again c =
    let at = c.before.before.before in
    let start = at.before.before in
    passed_miss _ _ _ _ at.loop-i.invariant
    (omega (arith, length-take-le start.args.n start.args.classes.now start.requires.0))
    (sym c.closes.ensures ∙ c.if-closes.false)

returns-2 : tie.Need-returns invariant-loop decreases-loop
unfolding definition_end
returns-2 c =
    let start = c.before.before.before in
    passed_end _ _ _ _ c.loop-i.invariant
    (omega (arith, length-take-le start.args.n start.args.classes.now start.requires.0))

pub definition_end_spec : {M : Type 1} → statement M
definition_end_spec =
    tie.close
    (tie.spec
    invariant-loop
    decreases-loop
    add-i
    loop-holds
    sub-loop
    closes-requires
    returns
    add-i-2
    loop-less
    loop-again
    returns-2)
