-- `list_clause` is right, test by test.
-- Assumes nothing.
use borrow.Author.Tests.{eq-eqb, ne_eqb}
use Rattle.clause_table.specs.Held.{list_clause}
use Rattle.clause_table.proofs.name_clause.list_clause.Statement.{statement}
use Rattle.clause_table.proofs.name_clause.list_clause.Tie as tie

returns : tie.Need-returns-then-verdict-eq-REPEATING
unfolding list_clause
returns c = rw (eq-eqb _ 3 c.if-verdict-eq-REPEATING.true)

returns-2 : tie.Need-returns-then-verdict-parent
unfolding list_clause
returns-2 c = rw (ne_eqb _ 3 c.if-verdict-eq-REPEATING.false, c.if-verdict-parent.true)

returns-3 : tie.Need-returns
unfolding list_clause
returns-3 c = rw (ne_eqb _ 3 c.if-verdict-eq-REPEATING.false, c.if-verdict-parent.false)

pub list_clause_spec : {M : Type 1} → statement M
list_clause_spec = tie.close (tie.spec
    returns
    returns-2
    returns-3)
