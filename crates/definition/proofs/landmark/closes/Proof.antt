-- `closes` is right: it is the definition, test by test.
-- Assumes nothing.
use borrow.Author.Rules.{rules}
use borrow.Author.Tests.{eq-eqb, ne_eqb}
use Rattle.definition.specs.Landmark.{closes}
use Rattle.definition.proofs.landmark.closes.Statement.{statement}
use Rattle.definition.proofs.landmark.closes.Tie as tie

class-at-requires : tie.Need-class_at-requires
class-at-requires c κs = search rules

begins-requires : tie.Need-begins-requires
begins-requires c κs = search rules

returns : tie.Need-returns-then-class_at-eq-END
unfolding closes
returns c = rw (← c.class_at.ensures) (simp (eq-eqb _ _ c.if-class_at-eq-END.true))

returns-2 : tie.Need-returns-else-class_at-eq-END
unfolding closes
returns-2 c =
    rw (← c.class_at.ensures, ← c.begins.ensures) (simp (ne_eqb _ _ c.if-class_at-eq-END.false))

pub closes_spec : {M : Type 1} → statement M
closes_spec = tie.close (tie.spec
    class-at-requires
    begins-requires
    returns
    returns-2)
