-- `clear` is right: each turn stores one zero more.
-- Assumes nothing.
use mathlib.Core.Path.{◌≡◌}
use Prim.Native.Nat.{◌-◌, ◌≤◌, ◌<◌}
use native.Mathlib.Omega.{arith}
use lib.ListN.{length, length-replicate}
use Rattle.overlay.proofs.Writing.{Writing, writing_start, writing_length, writing_more, writing_end}
use Rattle.reader.specs.Buffers.{zeros}
use Rattle.reader.proofs.Clearing.{zero_at, all_cleared}
use Rattle.reader.proofs.clear.Statement.{statement}
use Rattle.reader.proofs.clear.Tie as tie

abbrev invariant-loop : tie.invariant-loop-i
invariant-loop words₀ i₀ words i = Writing (zeros (length words₀)) i words₀ words

abbrev decreases-loop : tie.decreases-loop-i
decreases-loop words₀ i₀ words i = length words₀ - i

all_long : (s : tie.Start invariant-loop decreases-loop) → length (zeros (length s.args.words.now)) ≡ length s.args.words.now
all_long s = length-replicate (length s.args.words.now) 0

room : (s : tie.Start invariant-loop decreases-loop) → length (zeros (length s.args.words.now)) ≤ length s.args.words.now
room s = omega (arith, all_long s)

still_long : (l : tie.At-loop-i invariant-loop decreases-loop) → length l.loop-i.words ≡ length l.args.words.now
still_long l = writing_length _ _ _ _ (room l.before) l.loop-i.invariant

more : (c : tie.In-loop-i invariant-loop decreases-loop) → c.loop-i.i < length c.args.words.now
more c = omega (arith, c.loop-i-test.true, still_long c.before)

-- src/lib.rt:37:5
loop-holds : tie.Need-loop-i-init invariant-loop decreases-loop
loop-holds c = writing_start _ _

-- src/lib.rt:38:9
mul_words : tie.Need-offset_bounds-words-i invariant-loop decreases-loop
mul_words c = omega (arith, c.loop-i-test.true, more c)

-- src/lib.rt:38:9
slice-write-words : tie.Need-bounds-words-i invariant-loop decreases-loop
slice-write-words c = c.loop-i-test.true

-- src/lib.rt:39:9
add-i : tie.Need-overflow_add-i invariant-loop decreases-loop
add-i c = omega (arith, c.loop-i-test.true, more c)

-- src/lib.rt:37:5
loop-less : tie.Need-loop-i-smaller invariant-loop decreases-loop
loop-less c = omega (arith, c.loop-i-test.true, more c)

-- src/lib.rt:37:5
loop-again : tie.Need-loop-i-preserved invariant-loop decreases-loop
loop-again c =
    let l = c in
    writing_more _ _ _ _ (room l.before.before) l.loop-i.invariant (omega (arith, more c, all_long l.before.before)) 0 (zero_at _ _ (more c))

-- src/lib.rt:33:1
same_length : tie.Need-shape_of-words invariant-loop decreases-loop
same_length c = still_long c.before

-- src/lib.rt:33:1
returns : tie.Need-returns invariant-loop decreases-loop
returns c =
    let l = c in
    all_cleared _ _ _ (writing_end _ _ _ _ (room l.before.before) l.loop-i.invariant (omega (arith, c.loop-i-test.false, still_long l.before, all_long l.before.before)))

pub clear_spec : {M : Type 1} → statement M
clear_spec =
    tie.close
    (tie.spec
    invariant-loop
    decreases-loop
    loop-holds
    mul_words
    slice-write-words
    add-i
    loop-less
    loop-again
    same_length
    returns)
