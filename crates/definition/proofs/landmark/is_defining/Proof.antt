-- `is_defining` is right: it is the definition, test by test.
-- Assumes nothing.
use borrow.Author.Tests.{eq-eqb, ne_eqb}
use Rattle.definition.specs.Landmark.{is_defining}
use Rattle.definition.proofs.landmark.is_defining.Statement.{statement}
use Rattle.definition.proofs.landmark.is_defining.Tie as tie

returns : tie.Need-returns-then-class-eq-MODULE_IDENTITY
unfolding is_defining
returns c = simp (eq-eqb _ _ c.if-class-eq-MODULE_IDENTITY.true)

returns-2 : tie.Need-returns-then-class-eq-OBJECT_IDENTITY
unfolding is_defining
returns-2 c = simp (ne_eqb _ _ c.if-class-eq-MODULE_IDENTITY.false, eq-eqb _ _ c.if-class-eq-OBJECT_IDENTITY.true)

returns-3 : tie.Need-returns-then-class-eq-OBJECT_TYPE
unfolding is_defining
returns-3 c = simp (ne_eqb _ _ c.if-class-eq-MODULE_IDENTITY.false, ne_eqb _ _ c.if-class-eq-OBJECT_IDENTITY.false, eq-eqb _ _ c.if-class-eq-OBJECT_TYPE.true)

returns-4 : tie.Need-returns-else-class-eq-OBJECT_TYPE
unfolding is_defining
returns-4 c = simp (ne_eqb _ _ c.if-class-eq-MODULE_IDENTITY.false, ne_eqb _ _ c.if-class-eq-OBJECT_IDENTITY.false, ne_eqb _ _ c.if-class-eq-OBJECT_TYPE.false)

pub is_defining_spec : {M : Type 1} → statement M
is_defining_spec = tie.close (tie.spec
    returns
    returns-2
    returns-3
    returns-4)
