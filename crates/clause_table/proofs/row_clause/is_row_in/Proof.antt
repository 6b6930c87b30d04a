-- `is_row_in` is right, test by test.
-- Assumes nothing.
use mathlib.Core.Path.{sym, ◌∙◌}
use Rattle.clause_table.proofs.Clauses.{no_table, other_type, same_type}
use borrow.Author.Rules.{rules}
use Rattle.clause_table.proofs.row_clause.is_row_in.Statement.{statement}
use Rattle.clause_table.proofs.row_clause.is_row_in.Tie as tie

is-table-requires : tie.Need-is_table-requires
is-table-requires c κs = search rules

returns : tie.Need-returns-then-not-is_table
returns c = no_table _ _ _ (sym c.is_table.ensures ∙ c.if-not-is_table.true)

type-of-requires : tie.Need-type_of-requires
type-of-requires c κs = search rules

type-of-requires-2 : tie.Need-type_of-requires-2
type-of-requires-2 c κs = search rules

returns-2 : tie.Need-returns-then-type_of
returns-2 c =
    let b = c in
    let e = b in
    other_type _ _ _ (sym e.is_table.ensures ∙ e.if-not-is_table.false) (λ q. c.if-type_of.true (b.type_of.ensures ∙ q ∙ sym b.type_of-2.ensures))

ends-in-one-requires : tie.Need-ends_in_one-requires
ends-in-one-requires c κs = search rules

returns-3 : tie.Need-returns
returns-3 c =
    let b = c in
    let e = b in
    c.ends_in_one.ensures ∙ same_type _ _ _ (sym e.is_table.ensures ∙ e.if-not-is_table.false) (sym b.type_of.ensures ∙ c.if-type_of.false ∙ b.type_of-2.ensures)

pub is_row_in_spec : {M : Type 1} → statement M
is_row_in_spec =
    tie.close
    (tie.spec
    is-table-requires
    returns
    type-of-requires
    type-of-requires-2
    returns-2
    ends-in-one-requires
    returns-3)
