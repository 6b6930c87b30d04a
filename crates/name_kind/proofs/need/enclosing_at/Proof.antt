-- `enclosing_at` is right: at each step of the loop the word is that of token j, and j is i at the end.
-- Assumes nothing.
use mathlib.Core.Path.{◌≡◌, refl}
use Prim.Native.Nat.{◌≤◌, ◌-◌}
use native.Mathlib.Omega.{arith}
use borrow.Author.Rules.{rules}
use lib.ListN.{take}
use Rattle.name_kind.specs.Need.{enclosing}
use Rattle.name_kind.proofs.need.enclosing_at.Statement.{statement}
use Rattle.name_kind.proofs.need.enclosing_at.Tie as tie

abbrev invariant-loop : tie.invariant-loop-j
invariant-loop classes n i word₀ j₀ word j = (j ≤ i) × (word ≡ enclosing (take n classes) j)

abbrev decreases-loop : tie.decreases-loop-j
decreases-loop classes n i word₀ j₀ word j = i - j

cast-word : tie.Need-overflow_cast-word invariant-loop decreases-loop
cast-word c = search rules

loop-holds : tie.Need-loop-j-init invariant-loop decreases-loop
unfolding enclosing
loop-holds c = (search rules, refl)

next-enclosing-requires : tie.Need-next_enclosing-word-requires invariant-loop decreases-loop
next-enclosing-requires c κs = search rules

add-j : tie.Need-overflow_add-j invariant-loop decreases-loop
add-j c = search rules

loop-less : tie.Need-loop-j-smaller invariant-loop decreases-loop
loop-less c = search rules

loop-again : tie.Need-loop-j-preserved invariant-loop decreases-loop
loop-again c = (search rules, c.next_enclosing-word.ensures)

returns : tie.Need-returns invariant-loop decreases-loop
returns c =
    let loop = c.loop-j in
    let end : loop.j ≡ c.args.i = omega arith in
    rw (← end) loop.invariant.1

pub enclosing_at_spec : {M : Type 1} → statement M
enclosing_at_spec =
    tie.close
    (tie.spec
    invariant-loop
    decreases-loop
    cast-word
    loop-holds
    next-enclosing-requires
    add-j
    loop-less
    loop-again
    returns)
