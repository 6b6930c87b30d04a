-- `is_lower` is right: it is the definition, test by test.
-- Assumes nothing.
use borrow.Author.Tests.{eq-eqb, ne_eqb, le-leb, lt-leb}
use Rattle.definition.proofs.landmark.is_lower.Statement.{statement}
use Rattle.definition.proofs.landmark.is_lower.Tie as tie

returns : tie.Need-returns-then-class-eq-LOWER
returns c = simp (eq-eqb _ _ c.if-class-eq-LOWER.true)

returns-2 : tie.Need-returns-then-class-ge-CURRENT
returns-2 c = simp (ne_eqb _ _ c.if-class-eq-LOWER.false, le-leb _ _ c.if-class-ge-CURRENT.true)

returns-3 : tie.Need-returns-else-class-ge-CURRENT
returns-3 c = simp (ne_eqb _ _ c.if-class-eq-LOWER.false, lt-leb _ _ c.if-class-ge-CURRENT.false)

pub is_lower_spec : {M : Type 1} → statement M
is_lower_spec = tie.close (tie.spec
    returns
    returns-2
    returns-3)
