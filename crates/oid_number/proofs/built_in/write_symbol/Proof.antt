-- `write_symbol` is right because its loop writes the symbol's numbers one after the other, and past the last symbol there are none.
-- Assumes nothing.
use mathlib.Core.Path.{◌≡◌, ap}
use mathlib.Core.List.{[]}
use Prim.Native.Nat.{ℕ, ◌-◌, ◌≤◌, ◌<◌}
use lib.ListN.{length, get_or-eq_default}
use native.Mathlib.Omega.{arith}
use Rattle.symbol.specs.Symbol.{symbol_count, Symbol, symbols, no_symbol, symbol, what_is, numbers, numbers_of}
use Rattle.overlay.proofs.Writing.{Writing, writing_start, writing_length, writing_more, writing_end}
use Rattle.oid_number.proofs.built_in.write_symbol.Statement.{statement}
use Rattle.oid_number.proofs.built_in.write_symbol.Tie as tie

-- there is no symbol past the last, so it has no numbers
no_numbers : (k : ℕ) → symbol_count ≤ k → numbers_of k ≡ []
unfolding numbers_of what_is symbol symbols numbers no_symbol
no_numbers k past = ap (λ (s : Symbol). numbers s.what) (get_or-eq_default symbols no_symbol past)

abbrev invariant-loop : tie.invariant-loop-j
invariant-loop numbers₀ k count j₀ numbers j = Writing (numbers_of k) j numbers₀ numbers

abbrev decreases-loop : tie.decreases-loop-j
decreases-loop numbers₀ k count j₀ numbers j = count - j

returns : tie.Need-returns-then-k-ge-SYMBOLS invariant-loop decreases-loop
returns c =
    let s = c in
    let none = writing_start (numbers_of s.args.k) s.args.numbers.now in
    writing_end _ _ _ _ s.requires none (omega (arith, ap length (no_numbers s.args.k c.if-k-ge-SYMBOLS.true)))

oid-length-requires : tie.Need-oid_length-count-requires invariant-loop decreases-loop
oid-length-requires c κs = omega arith

loop-holds : tie.Need-loop-j-init invariant-loop decreases-loop
loop-holds c = writing_start _ _

oid-number-requires : tie.Need-oid_number-requires invariant-loop decreases-loop
oid-number-requires c κs = (omega arith, omega (arith, c.oid_length-count.ensures))

room : (c : tie.After-oid_number invariant-loop decreases-loop) → c.loop-j.j < length c.loop-j.numbers
room c =
    let l = c in
    let counted = l in
    let s = counted in
    omega (arith, writing_length _ _ _ _ s.requires l.loop-j.invariant, counted.oid_length-count.ensures, s.requires)

mul-numbers : tie.Need-offset_bounds-numbers-j invariant-loop decreases-loop
mul-numbers c = omega (arith, room c)

slice-write-numbers : tie.Need-bounds-numbers-j invariant-loop decreases-loop
slice-write-numbers c = room c

add-j : tie.Need-overflow_add-j invariant-loop decreases-loop
add-j c = omega (arith, room c)

loop-less : tie.Need-loop-j-smaller invariant-loop decreases-loop
loop-less c = omega arith

loop-again : tie.Need-loop-j-preserved invariant-loop decreases-loop
loop-again c =
    let turn = c in
    let l = turn in
    let counted = l in
    let s = counted in
    writing_more _ _ _ _ s.requires l.loop-j.invariant (omega (arith, counted.oid_length-count.ensures)) _ c.oid_number.ensures

same_length : tie.Need-shape_of-numbers invariant-loop decreases-loop
same_length c =
    let l = c in
    let s = l in
    writing_length _ _ _ _ s.requires l.loop-j.invariant

returns-2 : tie.Need-returns invariant-loop decreases-loop
returns-2 c =
    let l = c in
    let counted = l in
    let s = counted in
    let all = writing_end _ _ _ _ s.requires l.loop-j.invariant (omega (arith, counted.oid_length-count.ensures)) in
    record { counted = counted.oid_length-count.ensures; held = all.held }

pub write_symbol_spec : {M : Type 1} → statement M
write_symbol_spec =
    tie.close
    (tie.spec
    invariant-loop
    decreases-loop
    returns
    oid-length-requires
    loop-holds
    oid-number-requires
    mul-numbers
    slice-write-numbers
    add-j
    loop-less
    loop-again
    same_length
    returns-2)
