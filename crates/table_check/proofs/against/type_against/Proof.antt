-- `type_against` is right: it is the type of the definition read.
-- Assumes nothing.
use mathlib.Core.Path.{ap, ◌∙◌}
use Rattle.sequence_list.specs.Named.{type_of}
use Rattle.table_check.specs.Refusal.{definition_or, type_against}
use borrow.Author.Rules.{rules}
use Rattle.table_check.proofs.against.type_against.Statement.{statement}
use Rattle.table_check.proofs.against.type_against.Tie as tie

definition-at-requires : tie.Need-definition_at-requires
definition-at-requires c κs = search rules

type-of-requires : tie.Need-type_of-requires
type-of-requires c κs = search rules

definition-or-requires : tie.Need-definition_or-requires
definition-or-requires c κs = search rules

returns : tie.Need-returns
unfolding type_against
returns c =
    let s = c in
    c.definition_or.ensures ∙ ap (definition_or s.args.k.0) (c.type_of.ensures ∙ ap type_of c.definition_at.ensures)

pub type_against_spec : {M : Type 1} → statement M
type_against_spec =
    tie.close (tie.spec
    definition-at-requires
    type-of-requires
    definition-or-requires
    returns)
