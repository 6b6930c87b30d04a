-- `sort_of` is right because its table is that of what the symbols are.
-- Assumes nothing.
use borrow.Author.Rules.{rules}
use Rattle.symbol.specs.Symbol.{symbols, of_smi, of_tc, below_internet, sort_of}
use Rattle.symbol.proofs.Symbols.{sorts, sort_is}
use Rattle.symbol.proofs.sort_of.Statement.{statement}
use Rattle.symbol.proofs.sort_of.Tie as tie

mul-result : tie.Need-offset_bounds-k
mul-result c = search rules

array-copy-out-result : tie.Need-bounds-k-k
array-copy-out-result c = search rules

returns : tie.Need-returns
unfolding sorts symbols of_smi of_tc below_internet sort_of
returns c = sort_is c.args.k

pub sort_of_spec : {M : Type 1} → statement M
sort_of_spec = tie.close (tie.spec
    mul-result
    array-copy-out-result
    returns)
