-- `written_type` is right: all tests are made.
-- Assumes nothing.
use mathlib.Core.Path.{◌≡◌, sym, ap, ◌∙◌}
use mathlib.Core.Bool.{Bool, ◌&&◌}
use lib.Dec.{eqb}
use Rattle.module_table.specs.Definition.{definitions_in, entry}
use Rattle.module_table.specs.declared.Definition.{Definition}
use Rattle.object_tree.specs.Words.{is_object, is_row, numbered}
use Rattle.sequence_list.specs.Named.{type_of}
use Rattle.access_check.specs.Access.{is_written_column}
use Rattle.access_check.specs.Found.{written_type}
use borrow.Author.Rules.{rules}
use Rattle.access_check.proofs.clash.written_type.Statement.{statement}
use Rattle.access_check.proofs.clash.written_type.Tie as tie

abbrev read : tie.After-is_row → tie.After-definition_at-d
read h = h.before.before.before.before

-- the row is the parent of definition k
row_is : (h : tie.After-is_row) → (let s = (read h) in let ds = definitions_in s.args.definitions.now in h.numbered-row.result ≡ numbered ds (entry ds s.args.k.0).parent)
row_is h =
    let s = (read h) in
    let ds = definitions_in s.args.definitions.now in
    h.numbered-row.ensures ∙ ap (λ (d : Definition). numbered ds d.parent) (read h).definition_at-d.ensures

-- what was asked of both
asked : (h : tie.After-is_row) → (let s = (read h) in let ds = definitions_in s.args.definitions.now in
    ((h.is_object.result && eqb (read h).definition_at-d.result.access 4) && h.is_row.result) ≡ is_written_column ds (entry ds s.args.k.0))
asked h =
    let s = (read h) in
    let ds = definitions_in s.args.definitions.now in
    ap (λ (b : Bool). (b && eqb (read h).definition_at-d.result.access 4) && h.is_row.result) h.is_object.ensures
    ∙ ap (λ (b : Bool). (is_object (read h).definition_at-d.result && eqb (read h).definition_at-d.result.access 4) && b) (h.is_row.ensures ∙ ap is_row (row_is h))
    ∙ ap (λ (d : Definition). (is_object d && eqb d.access 4) && is_row (numbered ds (entry ds s.args.k.0).parent)) (read h).definition_at-d.ensures

definition-at-requires : tie.Need-definition_at-d-requires
definition-at-requires c κs = search rules

numbered-requires : tie.Need-numbered-row-requires
numbered-requires c κs = search rules

is-object-requires : tie.Need-is_object-requires
is-object-requires c κs = search rules

is-row-requires : tie.Need-is_row-requires
is-row-requires c κs = search rules

type-of-requires : tie.Need-type_of-requires
type-of-requires c κs = search rules

returns : tie.Need-returns-then-is_object-d
unfolding written_type
returns c =
    let h = c in
    rw (sym (asked h.before.before) ∙ c.if-is_object-d.true) (c.type_of.ensures ∙ ap type_of (row_is h.before.before))

returns-2 : tie.Need-returns
unfolding written_type
returns-2 c = rw (sym (asked c.before) ∙ c.if-is_object-d.false)

pub written_type_spec : {M : Type 1} → statement M
written_type_spec =
    tie.close
    (tie.spec
    definition-at-requires
    numbered-requires
    is-object-requires
    is-row-requires
    type-of-requires
    returns
    returns-2)
