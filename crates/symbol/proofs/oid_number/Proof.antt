-- `oid_number` is right because the numbers stand in their order from where the symbol's start.
-- Assumes nothing.
use mathlib.Core.Path.{refl}
use Prim.Native.Nat.{◌+◌, ◌<◌}
use lib.ListN.{length}
use native.Mathlib.Omega.{arith}
use borrow.Author.Rules.{rules}
use Rattle.lexicon.specs.Word.{joined}
use Rattle.lexicon.proofs.Words.{starts_there}
use Rattle.symbol.specs.Symbol.{symbols, of_smi, of_tc, below_internet, internet, numbers}
use Rattle.symbol.proofs.Joined.{joined_table}
use Rattle.symbol.proofs.Symbols.{symbol_numbers, number_inside, number_at}
use Rattle.symbol.proofs.oid_number.Statement.{statement}
use Rattle.symbol.proofs.oid_number.Tie as tie

start-requires : tie.Need-start-from-requires
start-requires c κs = search rules

-- the number stands in the table
inside : (c : tie.After-start-from) → c.start-from.result + c.args.j < length (joined symbol_numbers)
unfolding symbol_numbers symbols of_smi of_tc below_internet internet numbers joined starts_there
inside c =
    let s = c in
    number_inside s.args.k s.requires.0 c.start-from.ensures (joined_table symbol_numbers _ _ refl refl tt) s.args.j s.requires.1

add-result : tie.Need-overflow_add-result
unfolding symbol_numbers symbols of_smi of_tc below_internet internet numbers joined
add-result c = omega (arith, inside c.before)

mul-result : tie.Need-offset_bounds-from
unfolding symbol_numbers symbols of_smi of_tc below_internet internet numbers joined
mul-result c = omega (arith, inside c.before)

array-read-result : tie.Need-bounds-from
unfolding symbol_numbers symbols of_smi of_tc below_internet internet numbers joined
array-read-result c = inside c.before

returns : tie.Need-returns
unfolding symbol_numbers symbols of_smi of_tc below_internet internet numbers joined starts_there
returns c =
    let s = c in
    number_at s.args.k s.requires.0 c.start-from.ensures (joined_table symbol_numbers _ _ refl refl tt) s.args.j s.requires.1

pub oid_number_spec : {M : Type 1} → statement M
oid_number_spec =
    tie.close
    (tie.spec
    start-requires
    add-result
    mul-result
    array-read-result
    returns)
