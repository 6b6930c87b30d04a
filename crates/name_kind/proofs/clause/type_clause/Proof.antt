-- `type_clause` is right: it is the definition, test by test.
-- Assumes nothing.
use borrow.Author.Tests.{eq-eqb, ne_eqb}
use Rattle.name_kind.specs.Clause.{type_clause}
use Rattle.name_kind.proofs.clause.type_clause.Statement.{statement}
use Rattle.name_kind.proofs.clause.type_clause.Tie as tie

returns : tie.Need-returns-then-before-eq-SYNTAX
unfolding type_clause
returns c = simp (eq-eqb _ _ c.if-before-eq-SYNTAX.true)

returns-2 : tie.Need-returns
unfolding type_clause
returns-2 c = simp (ne_eqb _ _ c.if-before-eq-SYNTAX.false)

pub type_clause_spec : {M : Type 1} → statement M
type_clause_spec = tie.close (tie.spec
    returns
    returns-2)
