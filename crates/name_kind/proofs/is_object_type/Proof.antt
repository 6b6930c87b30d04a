-- `is_object_type` is right because its tests are those of the definition.
-- Assumes nothing.
use borrow.Author.Tests.{eq-eqb, ne_eqb}
use borrow.Author.Rules.{rules}
use Rattle.name_kind.proofs.is_object_type.Statement.{statement}
use Rattle.name_kind.proofs.is_object_type.Tie as tie

cast-if1 : tie.Need-overflow_cast-t-2
cast-if1 c = search rules

returns : tie.Need-returns-then-kind
returns c = simp (eq-eqb _ _ c.if-kind.true)

cast-result : tie.Need-overflow_cast-result
cast-result c = search rules

returns-2 : tie.Need-returns
returns-2 c = simp (ne_eqb _ _ c.if-kind.false)

pub is_object_type_spec : {M : Type 1} → statement M
is_object_type_spec = tie.close (tie.spec
    cast-if1
    returns
    cast-result
    returns-2)
