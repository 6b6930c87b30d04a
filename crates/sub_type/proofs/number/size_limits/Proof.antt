-- `size_limits` is right: it is the definition.
-- Assumes nothing.
use borrow.Author.Tests.{eq-eqb, ne_eqb}
use borrow.Author.Rules.{rules}
use Rattle.sub_type.proofs.number.size_limits.Statement.{statement}
use Rattle.sub_type.proofs.number.size_limits.Tie as tie

cast-if1 : tie.Need-overflow_cast-t-2
cast-if1 c = search rules

returns : tie.Need-returns-then-class
returns c = simp (eq-eqb _ _ c.if-class.true)

returns-2 : tie.Need-returns
returns-2 c = simp (ne_eqb _ _ c.if-class.false)

pub size_limits_spec : {M : Type 1} → statement M
size_limits_spec = tie.close (tie.spec
    cast-if1
    returns
    returns-2)
