-- `names_source` is right because the module's name stands in its table at the index that the symbol's entry gives.
-- Assumes nothing.
use mathlib.Core.Path.{◌≡◌, refl, ◌∙◌}
use Prim.Native.Nat.{◌<◌}
use native.Mathlib.Omega.{arith}
use lib.ListN.{length}
use borrow.Author.Rules.{rules}
use Rattle.lexicon.specs.Word.{bytes, joined}
use Rattle.lexicon.proofs.Words.{starts_there}
use Rattle.symbol.specs.Symbol.{modules, symbols, of_smi, of_tc, symbol, module_name}
use Rattle.symbol.proofs.Joined.{joined_table, part_within, part_compared}
use Rattle.symbol.proofs.Symbols.{module_indices, module_index_is, module_inside}
use Rattle.symbol.proofs.part.names_source.Statement.{statement}
use Rattle.symbol.proofs.part.names_source.Tie as tie

array-read-wide-byte : tie.Need-bounds-k
array-read-wide-byte c = search rules

wide-byte-requires : tie.Need-wide_byte-module-requires
wide-byte-requires c κs = search rules

-- the index that was read is that of the symbol's module
module_read : (c : tie.After-wide_byte-module) → c.wide_byte-module.result ≡ (symbol c.args.k).module_index
unfolding module_indices symbols of_smi of_tc
module_read c = c.wide_byte-module.ensures.0 ∙ module_index_is c.args.k

read_inside : (c : tie.After-wide_byte-module) → c.wide_byte-module.result < length modules
read_inside c = rw (module_read c) (module_inside c.args.k c.requires.1)

is-name-of-requires : tie.Need-is_name_of-requires
unfolding modules bytes joined starts_there
is-name-of-requires c κs =
    let r = c in
    let s = r in
    (s.requires.0, (omega (arith, read_inside r.before.before.before.before), part_within modules _ _ (joined_table modules _ _ refl refl tt) r.wide_byte-module.result (read_inside r.before.before.before.before)))

returns : tie.Need-returns
unfolding modules bytes joined starts_there module_name
returns c =
    let r = c in
    rw (← module_read r.before.before.before.before.before)
    (part_compared modules _ _ (joined_table modules _ _ refl refl tt) r.wide_byte-module.result (read_inside r.before.before.before.before.before) _ c.is_name_of.ensures)

pub names_source_spec : {M : Type 1} → statement M
names_source_spec =
    tie.close
    (tie.spec
    array-read-wide-byte
    wide-byte-requires
    is-name-of-requires
    returns)
