-- `is_rowless` is right, test by test.
-- Assumes nothing.
use mathlib.Core.Path.{◌≡◌, sym, ap, ◌∙◌}
use mathlib.Core.Bool.{not}
use Rattle.module_table.specs.Definition.{definitions_in, entry}
use Rattle.object_tree.specs.Words.{is_table}
use Rattle.clause_table.specs.Clause.{rowless_table}
use borrow.Author.Rules.{rules}
use Rattle.clause_table.proofs.row_clause.is_rowless.Statement.{statement}
use Rattle.clause_table.proofs.row_clause.is_rowless.Tie as tie

asked : (h : tie.After-is_table) → (let s = h in h.is_table.result ≡ is_table (entry (definitions_in s.args.definitions.now) s.args.k.0))
asked h = h.is_table.ensures ∙ ap is_table h.definition_at.ensures

definition-at-requires : tie.Need-definition_at-requires
definition-at-requires c κs = search rules

is-table-requires : tie.Need-is_table-requires
is-table-requires c κs = search rules

returns : tie.Need-returns-then-not-is_table
unfolding rowless_table
returns c =
    let no = sym (asked c.before) ∙ c.if-not-is_table.true in
    rw no

has-its-row-requires : tie.Need-has_its_row-requires
has-its-row-requires c κs = search rules

returns-2 : tie.Need-returns
unfolding rowless_table
returns-2 c =
    let yes = sym (asked c.before.before) ∙ c.if-not-is_table.false in
    rw yes (ap not c.has_its_row.ensures)

pub is_rowless_spec : {M : Type 1} → statement M
is_rowless_spec =
    tie.close
    (tie.spec
    definition-at-requires
    is-table-requires
    returns
    has-its-row-requires
    returns-2)
