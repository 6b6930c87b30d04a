-- `write_record` is right: each turn stores one word more.
-- Assumes nothing.
use mathlib.Core.Path.{◌≡◌, refl}
use lib.ListN.{length}
use Prim.Native.Nat.{◌-◌, ◌≤◌}
use native.Mathlib.Omega.{arith}
use Rattle.records.specs.Record.{record_width}
use Rattle.overlay.proofs.Writing.{Writing, writing_start, writing_length, writing_more, writing_end}
use Rattle.records.proofs.write_record.Statement.{statement}
use Rattle.records.proofs.write_record.Tie as tie

abbrev invariant-loop : tie.invariant-loop-j
invariant-loop records₀ words j₀ records j = (j ≤ record_width) × Writing words j records₀ records

abbrev decreases-loop : tie.decreases-loop-j
decreases-loop records₀ words j₀ records j = record_width - j

-- there is room for all words
room : (s : tie.Start invariant-loop decreases-loop) → length s.args.words ≤ length s.args.records.now
room s = omega (arith, s.requires.0, s.requires.1)

-- a store leaves the buffer as long as it was
still_long : (l : tie.At-loop-j invariant-loop decreases-loop) → length l.loop-j.records ≡ length l.args.records.now
still_long l = writing_length _ _ _ _ (room l.before) l.loop-j.invariant.1

loop-holds : tie.Need-loop-j-init invariant-loop decreases-loop
loop-holds c = (omega arith, writing_start _ _)

mul-records : tie.Need-offset_bounds-words-j invariant-loop decreases-loop
mul-records c = omega (arith, c.loop-j-test.true)

array-read-records : tie.Need-bounds-words-j invariant-loop decreases-loop
array-read-records c = omega (arith, c.loop-j-test.true)

mul-records-2 : tie.Need-offset_bounds-records-j invariant-loop decreases-loop
mul-records-2 c = omega (arith, c.loop-j-test.true)

slice-write-records : tie.Need-bounds-records-j invariant-loop decreases-loop
slice-write-records c =
    let l = c in
    omega (arith, c.loop-j-test.true, still_long l.before, l.requires.1)

add-j : tie.Need-overflow_add-j invariant-loop decreases-loop
add-j c = omega (arith, c.loop-j-test.true)

loop-less : tie.Need-loop-j-smaller invariant-loop decreases-loop
loop-less c = omega (arith, c.loop-j-test.true)

loop-again : tie.Need-loop-j-preserved invariant-loop decreases-loop
loop-again c =
    let l = c in
    let s = l in
    (omega (arith, c.loop-j-test.true), writing_more _ _ _ _ (room s.before.before) l.loop-j.invariant.1 (omega (arith, c.loop-j-test.true, s.requires.0)) _ refl)

same_length : tie.Need-shape_of-records invariant-loop decreases-loop
same_length c = still_long c.before

returns : tie.Need-returns invariant-loop decreases-loop
returns c =
    let l = c in
    let s = l in
    let all : l.loop-j.j ≡ record_width = omega (arith, l.loop-j.invariant.0, c.loop-j-test.false) in
    rw all at (writing_end _ _ _ _ (room s.before.before) l.loop-j.invariant.1 (omega (arith, s.requires.0, all)))

pub write_record_spec : {M : Type 1} → statement M
write_record_spec =
    tie.close
    (tie.spec
    invariant-loop
    decreases-loop
    loop-holds
    mul-records
    array-read-records
    mul-records-2
    slice-write-records
    add-j
    loop-less
    loop-again
    same_length
    returns)
