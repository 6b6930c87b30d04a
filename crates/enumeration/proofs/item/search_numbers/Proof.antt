-- `search_numbers` is right by the law of the search through a span.
-- Assumes nothing.
use mathlib.Core.Path.{◌∙◌}
use Prim.Native.Nat.{◌-◌}
use native.Mathlib.Omega.{arith}
use borrow.Author.Rules.{rules}
use Rattle.enumeration.specs.Item.{number_misfit}
use Rattle.enumeration.specs.Tree.{number_turns}
use Rattle.enumeration.proofs.Placing.{Searching, searching_start, searching_room, searching_hit, searching_next, searching_end}
use Rattle.enumeration.proofs.item.search_numbers.Statement.{statement}
use Rattle.enumeration.proofs.item.search_numbers.Tie as tie

abbrev invariant-loop : tie.invariant-loop-token
invariant-loop classes values limits links₀ base to token₀ links token = Searching (number_misfit classes values limits base) classes (number_turns values) base to links₀ links token

abbrev decreases-loop : tie.decreases-loop-token
decreases-loop classes values limits links₀ base to token₀ links token = to - token

abbrev start_of : tie.At-loop-token invariant-loop decreases-loop → tie.Start invariant-loop decreases-loop
start_of l = l.before.before.before.before

loop-holds : tie.Need-loop-token-init invariant-loop decreases-loop
loop-holds c = searching_start _ _ _ _ _ _ c.requires.1

admit-number-requires : tie.Need-admit_number-requires invariant-loop decreases-loop
admit-number-requires c κs =
    let l = c in
    let s = start_of l.before.before in
    let below = c.loop-token-test.true in
    (l.loop-token.invariant.ready, (searching_room _ _ _ _ _ _ _ _ l.loop-token.invariant below s.requires.1, omega (arith, s.requires.0, below)))

same_length : tie.Need-shape_of-links-then-admit_number invariant-loop decreases-loop
same_length c = c.admit_number.ensures.0 ∙ c.loop-token.invariant.long

returns : tie.Need-returns-then-admit_number invariant-loop decreases-loop
returns c =
    let a = c in
    let l = a in
    searching_hit _ _ _ _ _ _ _ _ l.loop-token.invariant a.loop-token-test.true _ _ a.admit_number.ensures.1 c.if-admit_number.true

add-token : tie.Need-overflow_add-token invariant-loop decreases-loop
add-token c = search rules

loop-less : tie.Need-loop-token-smaller invariant-loop decreases-loop
loop-less c = search rules

loop-again : tie.Need-loop-token-preserved invariant-loop decreases-loop
loop-again c =
    let a = c in
    let l = a in
    searching_next _ _ _ _ _ _ _ _ l.loop-token.invariant a.loop-token-test.true _ _ a.admit_number.ensures.1 c.if-admit_number.false a.admit_number.ensures.0

same-length-2 : tie.Need-shape_of-links invariant-loop decreases-loop
same-length-2 c = c.loop-token.invariant.long

returns-2 : tie.Need-returns invariant-loop decreases-loop
returns-2 c = searching_end _ _ _ _ _ _ _ _ c.loop-token.invariant c.loop-token-test.false

pub search_numbers_spec : {M : Type 1} → statement M
search_numbers_spec =
    tie.close
    (tie.spec
    invariant-loop
    decreases-loop
    loop-holds
    admit-number-requires
    same_length
    returns
    add-token
    loop-less
    loop-again
    same-length-2
    returns-2)
