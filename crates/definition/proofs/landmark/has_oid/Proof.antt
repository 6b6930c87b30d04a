-- `has_oid` is right: it is the definition, test by test.
-- Assumes nothing.
use borrow.Author.Rules.{rules}
use borrow.Author.Tests.{le-leb, lt-leb}
use Rattle.definition.specs.Landmark.{has_oid}
use Rattle.definition.proofs.landmark.has_oid.Statement.{statement}
use Rattle.definition.proofs.landmark.has_oid.Tie as tie

cast-if1 : tie.Need-overflow_cast-t-3
cast-if1 c = search rules

cast-result : tie.Need-overflow_cast-result
cast-result c = search rules

returns : tie.Need-returns-then-kind
unfolding has_oid
returns c = simp (le-leb _ _ c.if-kind.true)

returns-2 : tie.Need-returns-else-kind
unfolding has_oid
returns-2 c = simp (lt-leb _ _ c.if-kind.false)

pub has_oid_spec : {M : Type 1} → statement M
has_oid_spec = tie.close (tie.spec
    cast-if1
    cast-result
    returns
    returns-2)
