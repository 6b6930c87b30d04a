-- `object_clause` is right: it is the definition, test by test.
-- Assumes nothing.
use borrow.Author.Tests.{eq-eqb, ne_eqb}
use Rattle.name_kind.specs.Clause.{object_clause}
use Rattle.name_kind.proofs.clause.object_clause.Statement.{statement}
use Rattle.name_kind.proofs.clause.object_clause.Tie as tie

returns : tie.Need-returns-then-word-eq-INDEX
unfolding object_clause
returns c = simp (eq-eqb _ _ c.if-word-eq-INDEX.true)

returns-2 : tie.Need-returns-then-word-eq-AUGMENTS
unfolding object_clause
returns-2 c = simp (ne_eqb _ _ c.if-word-eq-INDEX.false, eq-eqb _ _ c.if-word-eq-AUGMENTS.true)

returns-3 : tie.Need-returns-then-word-eq-OBJECTS
unfolding object_clause
returns-3 c = simp (ne_eqb _ _ c.if-word-eq-INDEX.false, ne_eqb _ _ c.if-word-eq-AUGMENTS.false, eq-eqb _ _ c.if-word-eq-OBJECTS.true)

returns-4 : tie.Need-returns
unfolding object_clause
returns-4 c = simp (ne_eqb _ _ c.if-word-eq-INDEX.false, ne_eqb _ _ c.if-word-eq-AUGMENTS.false, ne_eqb _ _ c.if-word-eq-OBJECTS.false)

pub object_clause_spec : {M : Type 1} → statement M
object_clause_spec = tie.close (tie.spec
    returns
    returns-2
    returns-3
    returns-4)
