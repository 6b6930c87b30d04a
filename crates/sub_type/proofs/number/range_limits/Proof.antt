-- `range_limits` is right: it is the definition, class by class.
-- Assumes nothing.
use borrow.Author.Tests.{eq-eqb, ne_eqb}
use borrow.Author.Rules.{rules}
use Rattle.sub_type.proofs.number.range_limits.Statement.{statement}
use Rattle.sub_type.proofs.number.range_limits.Tie as tie

cast-if1 : tie.Need-overflow_cast-t-2
cast-if1 c = search rules

returns : tie.Need-returns-then-class
returns c = simp (eq-eqb _ _ c.if-class.true)

cast-if2 : tie.Need-overflow_cast-t-2-2
cast-if2 c = search rules

returns-2 : tie.Need-returns-then-class-2
returns-2 c = simp (ne_eqb _ _ c.if-class.false, eq-eqb _ _ c.if-class-2.true)

cast-if3 : tie.Need-overflow_cast-t-2-3
cast-if3 c = search rules

returns-3 : tie.Need-returns-then-class-3
returns-3 c = simp (ne_eqb _ _ c.if-class.false, ne_eqb _ _ c.if-class-2.false, eq-eqb _ _ c.if-class-3.true)

returns-4 : tie.Need-returns
returns-4 c = simp (ne_eqb _ _ c.if-class.false, ne_eqb _ _ c.if-class-2.false, ne_eqb _ _ c.if-class-3.false)

pub range_limits_spec : {M : Type 1} → statement M
range_limits_spec =
    tie.close (tie.spec
    cast-if1
    returns
    cast-if2
    returns-2
    cast-if3
    returns-3
    returns-4)
