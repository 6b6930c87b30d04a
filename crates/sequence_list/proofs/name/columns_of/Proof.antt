-- `columns_of` is right: they are those of the definition of that number.
-- Assumes nothing.
use mathlib.Core.Path.{ap}
use Rattle.module_table.specs.declared.Definition.{Definition}
use borrow.Author.Rules.{rules}
use Rattle.sequence_list.proofs.name.columns_of.Statement.{statement}
use Rattle.sequence_list.proofs.name.columns_of.Tie as tie

numbered-requires : tie.Need-numbered-d-requires
numbered-requires c κs = search rules

returns : tie.Need-returns
returns c = ap (λ (d : Definition). d.columns) c.numbered-d.ensures

pub columns_of_spec : {M : Type 1} → statement M
columns_of_spec = tie.close (tie.spec
    numbered-requires
    returns)
