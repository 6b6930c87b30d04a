-- `row_type` is right: it is that of the parent.
-- Assumes nothing.
use Rattle.module_table.specs.Definition.{definitions_in}
use Rattle.module_table.specs.declared.Definition.{Definition}
use Rattle.object_tree.specs.Words.{numbered}
use Rattle.sequence_list.specs.Named.{type_of}
use mathlib.Core.Path.{ap, ◌∙◌}
use borrow.Author.Rules.{rules}
use Rattle.sequence_list.proofs.listed.row_type.Statement.{statement}
use Rattle.sequence_list.proofs.listed.row_type.Tie as tie

numbered-requires : tie.Need-numbered-d-requires
numbered-requires c κs = search rules

numbered-requires-2 : tie.Need-numbered-requires
numbered-requires-2 c κs = search rules

type-of-requires : tie.Need-type_of-requires
type-of-requires c κs = search rules

returns : tie.Need-returns
returns c =
    let s = c in
    c.type_of.ensures ∙ ap type_of (c.numbered.ensures ∙ ap (λ (d : Definition). numbered (definitions_in s.args.definitions.now) d.parent) c.numbered-d.ensures)

pub row_type_spec : {M : Type 1} → statement M
row_type_spec = tie.close (tie.spec
    numbered-requires
    numbered-requires-2
    type-of-requires
    returns)
