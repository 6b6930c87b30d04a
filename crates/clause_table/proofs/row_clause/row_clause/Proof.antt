-- `row_clause` is right, test by test.
-- Assumes nothing.
use mathlib.Core.Path.{sym, ap, ◌∙◌}
use Rattle.clause_table.specs.Held.{index_clause}
use Rattle.clause_table.proofs.Clauses.{row_clause_1, row_clause_2, row_clause_rest}
use borrow.Author.Rules.{rules}
use Rattle.clause_table.proofs.row_clause.row_clause.Statement.{statement}
use Rattle.clause_table.proofs.row_clause.row_clause.Tie as tie

is-rowless-requires : tie.Need-is_rowless-requires
is-rowless-requires c κs = search rules

returns : tie.Need-returns-then-is_rowless
returns c = row_clause_1 _ _ _ (sym c.is_rowless.ensures ∙ c.if-is_rowless.true)

is-stray-requires : tie.Need-is_stray-requires
is-stray-requires c κs = search rules

returns-2 : tie.Need-returns-then-is_stray
returns-2 c =
    let e = c in
    row_clause_2 _ _ _ (sym e.is_rowless.ensures ∙ e.if-is_rowless.false) (sym c.is_stray.ensures ∙ c.if-is_stray.true)

definition-at-requires : tie.Need-definition_at-requires
definition-at-requires c κs = search rules

index-clause-requires : tie.Need-index_clause-requires
index-clause-requires c κs = search rules

returns-3 : tie.Need-returns
returns-3 c =
    let f = c in
    let e = f in
    c.index_clause.ensures ∙ ap index_clause c.definition_at.ensures
    ∙ row_clause_rest _ _ _ (sym e.is_rowless.ensures ∙ e.if-is_rowless.false) (sym f.is_stray.ensures ∙ f.if-is_stray.false)

pub row_clause_spec : {M : Type 1} → statement M
row_clause_spec =
    tie.close
    (tie.spec
    is-rowless-requires
    returns
    is-stray-requires
    returns-2
    definition-at-requires
    index-clause-requires
    returns-3)
