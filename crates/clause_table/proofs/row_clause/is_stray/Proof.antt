-- `is_stray` is right, test by test.
-- Assumes nothing.
use mathlib.Core.Path.{◌≡◌, sym, ap, ◌∙◌}
use mathlib.Core.Bool.{not}
use Rattle.module_table.specs.Definition.{definitions_in, entry}
use Rattle.module_table.specs.declared.Definition.{Definition}
use Rattle.object_tree.specs.Words.{is_row, numbered}
use Rattle.clause_table.specs.Clause.{is_row_in, stray_row}
use borrow.Author.Rules.{rules}
use Rattle.clause_table.proofs.row_clause.is_stray.Statement.{statement}
use Rattle.clause_table.proofs.row_clause.is_stray.Tie as tie

asked : (h : tie.After-is_row) → (let s = h in h.is_row.result ≡ is_row (entry (definitions_in s.args.definitions.now) s.args.k.0))
asked h = h.is_row.ensures ∙ ap is_row h.definition_at-d.ensures

definition-at-requires : tie.Need-definition_at-d-requires
definition-at-requires c κs = search rules

is-row-requires : tie.Need-is_row-requires
is-row-requires c κs = search rules

returns : tie.Need-returns-then-not-is_row
unfolding stray_row
returns c =
    let no = sym (asked c.before) ∙ c.if-not-is_row.true in
    rw no

numbered-requires : tie.Need-numbered-requires
numbered-requires c κs = search rules

is-row-in-requires : tie.Need-is_row_in-requires
is-row-in-requires c κs = search rules

returns-2 : tie.Need-returns
unfolding stray_row
returns-2 c =
    let r = c in
    let s = r in
    let yes = sym (asked r.before.before.before) ∙ c.if-not-is_row.false in
    rw yes (ap not (c.is_row_in.ensures ∙ ap (λ (p : Definition). is_row_in s.args.numbers.now p r.definition_at-d.result) c.numbered.ensures
    ∙ ap (λ (d : Definition). is_row_in s.args.numbers.now (numbered (definitions_in s.args.definitions.now) d.parent) d) r.definition_at-d.ensures))

pub is_stray_spec : {M : Type 1} → statement M
is_stray_spec =
    tie.close
    (tie.spec
    definition-at-requires
    is-row-requires
    returns
    numbered-requires
    is-row-in-requires
    returns-2)
