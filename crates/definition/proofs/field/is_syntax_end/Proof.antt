-- `is_syntax_end` is right: it is the definition, test by test.
-- Assumes nothing.
use borrow.Author.Tests.{eq-eqb, ne_eqb}
use Rattle.definition.proofs.field.is_syntax_end.Statement.{statement}
use Rattle.definition.proofs.field.is_syntax_end.Tie as tie

returns : tie.Need-returns-then-class-eq-UNITS
returns c = simp (eq-eqb _ _ c.if-class-eq-UNITS.true)

returns-2 : tie.Need-returns-else-class-eq-UNITS
returns-2 c = simp (ne_eqb _ _ c.if-class-eq-UNITS.false)

pub is_syntax_end_spec : {M : Type 1} → statement M
is_syntax_end_spec = tie.close (tie.spec
    returns
    returns-2)
