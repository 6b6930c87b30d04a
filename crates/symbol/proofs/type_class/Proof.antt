-- `type_class` is right because the sort of a symbol has its class, and past the last symbol there is none.
-- Assumes nothing.
use mathlib.Core.Path.{ap, ◌∙◌}
use borrow.Author.Rules.{rules}
use Rattle.symbol.specs.Symbol.{class_of_sort}
use Rattle.symbol.proofs.Symbols.{class_said, class_past}
use Rattle.symbol.proofs.type_class.Statement.{statement}
use Rattle.symbol.proofs.type_class.Tie as tie

returns : tie.Need-returns-then-k-ge-SYMBOLS
returns c = class_past _ c.if-k-ge-SYMBOLS.true

sort-of-requires : tie.Need-sort_of-requires
sort-of-requires c κs = search rules

class-of-requires : tie.Need-class_of-requires
class-of-requires c κs = search rules

returns-2 : tie.Need-returns
returns-2 c = c.class_of.ensures ∙ ap class_of_sort c.sort_of.ensures ∙ class_said _

pub type_class_spec : {M : Type 1} → statement M
type_class_spec =
    tie.close (tie.spec
    returns
    sort-of-requires
    class-of-requires
    returns-2)
