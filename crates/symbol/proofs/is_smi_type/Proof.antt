-- `is_smi_type` is right because its table has the index of the module that offers the symbol.
-- Assumes nothing.
use borrow.Author.Rules.{rules}
use Rattle.symbol.specs.Symbol.{symbols, of_smi, of_tc}
use Rattle.symbol.proofs.Symbols.{module_indices, smi_type_past, smi_type_first, smi_type_later}
use Rattle.symbol.proofs.is_smi_type.Statement.{statement}
use Rattle.symbol.proofs.is_smi_type.Tie as tie

returns : tie.Need-returns-then-k-ge-SYMBOLS
returns c = smi_type_past _ c.if-k-ge-SYMBOLS.true

array-read-if2 : tie.Need-bounds-k
array-read-if2 c = search rules

type-class-requires : tie.Need-type_class-requires
type-class-requires c κs = search rules

returns-2 : tie.Need-returns-then-k-eq0
unfolding module_indices symbols of_smi of_tc
returns-2 c =
    let first = c in
    smi_type_first first.args.k first.if-k-eq0.true _ c.type_class.ensures

returns-3 : tie.Need-returns-else-k-eq0
unfolding module_indices symbols of_smi of_tc
returns-3 c = smi_type_later c.args.k c.if-k-eq0.false

pub is_smi_type_spec : {M : Type 1} → statement M
is_smi_type_spec =
    tie.close (tie.spec
    returns
    array-read-if2
    type-class-requires
    returns-2
    returns-3)
