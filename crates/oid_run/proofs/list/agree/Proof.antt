-- `agree` is right because the numbers passed are equal, so that what is left decides.
-- Assumes nothing.
use mathlib.Core.Path.{refl}
use native.Mathlib.Omega.{arith}
use Rattle.lexicon.proofs.Words.{Comparing, last_agrees, last_differs, all_agree}
use Rattle.oid_run.proofs.list.agree.Statement.{statement}
use Rattle.oid_run.proofs.list.agree.Tie as tie

abbrev invariant-loop : tie.invariant-loop-k
invariant-loop numbers n i j k₀ k = Comparing numbers numbers i j n k

abbrev decreases-loop : tie.decreases-loop-k
decreases-loop numbers n i j k₀ k = k

loop-holds : tie.Need-loop-k-init invariant-loop decreases-loop
loop-holds c = (omega arith, refl)

sub-k : tie.Need-overflow_sub-k invariant-loop decreases-loop
sub-k c = omega arith

add-if1 : tie.Need-overflow_add-i invariant-loop decreases-loop
add-if1 c = omega arith

mul-if1 : tie.Need-offset_bounds-numbers-i invariant-loop decreases-loop
mul-if1 c = omega arith

shared-slice-read-if1 : tie.Need-bounds-numbers-i invariant-loop decreases-loop
shared-slice-read-if1 c = omega arith

add-if1-2 : tie.Need-overflow_add-j invariant-loop decreases-loop
add-if1-2 c = omega arith

mul-if1-2 : tie.Need-offset_bounds-numbers-j invariant-loop decreases-loop
mul-if1-2 c = omega arith

shared-slice-read-if1-2 : tie.Need-bounds-numbers-j invariant-loop decreases-loop
shared-slice-read-if1-2 c = omega arith

returns : tie.Need-returns-then-numbers-i invariant-loop decreases-loop
returns c =
    let turn = c in
    let l = turn in
    let s = l in
    last_differs _ _ _ _ _ _ s.requires.0 s.requires.1 l.loop-k.invariant turn.loop-k-test.true c.if-numbers-i.true

loop-less : tie.Need-loop-k-smaller invariant-loop decreases-loop
loop-less c = omega arith

loop-again : tie.Need-loop-k-preserved invariant-loop decreases-loop
loop-again c =
    let turn = c in
    let l = turn in
    let s = l in
    last_agrees _ _ _ _ _ _ s.requires.0 s.requires.1 l.loop-k.invariant turn.loop-k-test.true c.if-numbers-i.false

returns-2 : tie.Need-returns invariant-loop decreases-loop
returns-2 c =
    let l = c in
    let s = l in
    all_agree _ _ _ _ _ _ s.requires.0 s.requires.1 l.loop-k.invariant c.loop-k-test.false

pub agree_spec : {M : Type 1} → statement M
agree_spec =
    tie.close
    (tie.spec
    invariant-loop
    decreases-loop
    loop-holds
    sub-k
    add-if1
    mul-if1
    shared-slice-read-if1
    add-if1-2
    mul-if1-2
    shared-slice-read-if1-2
    returns
    loop-less
    loop-again
    returns-2)
