-- `store` is right by the law of the loop that stores a definition's words.
-- Assumes nothing.
use native.Mathlib.Omega.{arith}
use Prim.Native.Nat.{◌*◌, ◌-◌}
use Rattle.module_table.specs.Definition.{width}
use Rattle.module_table.proofs.Table.{Storing, storing_start, storing_more, storing_end, entry_room}
use Rattle.module_table.proofs.definition_table.store.Statement.{statement}
use Rattle.module_table.proofs.definition_table.store.Tie as tie

abbrev invariant-loop : tie.invariant-loop-j
invariant-loop definitions₀ words b j₀ definitions j = Storing definitions₀ b words j definitions

abbrev decreases-loop : tie.decreases-loop-j
decreases-loop definitions₀ words b j₀ definitions j = width - j

words-of-requires : tie.Need-words_of-words-requires invariant-loop decreases-loop
words-of-requires c κs = tt

mul-b : tie.Need-overflow_mul-b invariant-loop decreases-loop
mul-b c =
    let s = c in
    omega (arith, entry_room _ s.args.k.0 s.requires)

loop-holds : tie.Need-loop-j-init invariant-loop decreases-loop
loop-holds c = storing_start _ _ _

mul-definitions : tie.Need-offset_bounds-words-j invariant-loop decreases-loop
mul-definitions c = omega arith

array-read-definitions : tie.Need-bounds-words-j invariant-loop decreases-loop
array-read-definitions c = omega arith

add-definitions : tie.Need-overflow_add-definitions invariant-loop decreases-loop
add-definitions c =
    let s = c in
    omega (arith, entry_room _ s.args.k.0 s.requires, c.loop-j-test.true)

mul-definitions-2 : tie.Need-offset_bounds-definitions-b invariant-loop decreases-loop
mul-definitions-2 c =
    let s = c in
    omega (arith, entry_room _ s.args.k.0 s.requires, c.loop-j-test.true, c.loop-j.invariant.as_long)

slice-write-definitions : tie.Need-bounds-definitions-b invariant-loop decreases-loop
slice-write-definitions c =
    let s = c in
    omega (arith, entry_room _ s.args.k.0 s.requires, c.loop-j-test.true, c.loop-j.invariant.as_long)

add-j : tie.Need-overflow_add-j invariant-loop decreases-loop
add-j c = omega arith

loop-less : tie.Need-loop-j-smaller invariant-loop decreases-loop
loop-less c = omega (arith, c.loop-j-test.true)

loop-again : tie.Need-loop-j-preserved invariant-loop decreases-loop
loop-again c =
    let s = c in
    storing_more _ (s.args.k.0 * width) _ _ _ c.loop-j.invariant c.loop-j-test.true (omega (arith, entry_room _ s.args.k.0 s.requires, c.loop-j-test.true, c.loop-j.invariant.as_long))

same_length : tie.Need-shape_of-definitions invariant-loop decreases-loop
same_length c = c.loop-j.invariant.as_long

returns : tie.Need-returns invariant-loop decreases-loop
returns c =
    let s = c in
    storing_end _ s.args.k.0 _ _ _ s.args.d c.loop-j.invariant c.loop-j-test.false c.words_of-words.ensures s.requires

pub store_spec : {M : Type 1} → statement M
store_spec =
    tie.close
    (tie.spec
    invariant-loop
    decreases-loop
    words-of-requires
    mul-b
    loop-holds
    mul-definitions
    array-read-definitions
    add-definitions
    mul-definitions-2
    slice-write-definitions
    add-j
    loop-less
    loop-again
    same_length
    returns)
