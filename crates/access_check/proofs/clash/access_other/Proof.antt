-- `access_other` is right: it is the definition.
-- Assumes nothing.
use mathlib.Core.Path.{ap, ◌∙◌}
use borrow.Author.Tests.{eq-eqb, ne_eqb}
use Rattle.module_table.specs.Definition.{definitions_in}
use Rattle.module_table.specs.declared.Definition.{Definition}
use Rattle.object_tree.specs.Words.{read_create, numbered}
use Rattle.sequence_list.specs.Named.{type_of, columns_of, named_at}
use Rattle.access_check.specs.Access.{first_with, access_other}
use borrow.Author.Rules.{rules}
use Rattle.access_check.proofs.clash.access_other.Statement.{statement}
use Rattle.access_check.proofs.clash.access_other.Tie as tie

definition-at-requires : tie.Need-definition_at-d-requires
definition-at-requires c κs = search rules

numbered-requires : tie.Need-numbered-requires
numbered-requires c κs = search rules

type-of-requires : tie.Need-type_of-requires
type-of-requires c κs = search rules

columns-of-requires : tie.Need-columns_of-list-requires
columns-of-requires c κs = search rules

first-with-requires : tie.Need-first_with-i-requires
first-with-requires c κs = search rules

named-at-requires : tie.Need-named_at-requires
named-at-requires c κs = search rules

numbered-requires-2 : tie.Need-numbered-column-requires
numbered-requires-2 c κs = search rules

returns : tie.Need-returns-then-clause-eq1
unfolding access_other
returns c =
    let named = c in
    let found = named in
    let list = found in
    let type = list in
    let row = type in
    let d = row in
    let s = d in
    let ds = definitions_in s.args.definitions.now in
    rw (eq-eqb _ 1 row.if-clause-eq1.true)
    (ap (λ (x : Definition). x.name.0)
    (c.numbered-column.ensures ∙ ap (numbered ds)
    (named.named_at.ensures ∙ ap (named_at ds s.args.values.now)
    (found.first_with-i.ensures ∙ ap (first_with ds s.args.values.now read_create)
    (list.columns_of-list.ensures ∙ ap (columns_of ds)
    (type.type_of.ensures ∙ ap type_of
    (row.numbered.ensures ∙ ap (λ (x : Definition). numbered ds x.parent) d.definition_at-d.ensures)))))))

returns-2 : tie.Need-returns
unfolding access_other
returns-2 c =
    let e = c in
    rw (ne_eqb _ 1 e.if-clause-eq1.false) (ap (λ (x : Definition). x.name.0) e.definition_at-d.ensures)

pub access_other_spec : {M : Type 1} → statement M
access_other_spec =
    tie.close
    (tie.spec
    definition-at-requires
    numbered-requires
    type-of-requires
    columns-of-requires
    first-with-requires
    named-at-requires
    numbered-requires-2
    returns
    returns-2)
