-- `class_given` is right: it is the definition, kind by kind.
-- Assumes nothing.
use borrow.Author.Tests.{eq-eqb, ne_eqb}
use borrow.Author.Rules.{rules}
use Rattle.type_class.proofs.class_of.class_given.Statement.{statement}
use Rattle.type_class.proofs.class_of.class_given.Tie as tie

cast-if1 : tie.Need-overflow_cast-t-2
cast-if1 c = search rules

returns : tie.Need-returns-then-d
returns c = simp (eq-eqb _ _ c.if-d.true)

cast-if2 : tie.Need-overflow_cast-t-2-2
cast-if2 c = search rules

returns-2 : tie.Need-returns-then-d-2
returns-2 c = simp (ne_eqb _ _ c.if-d.false, eq-eqb _ _ c.if-d-2.true)

returns-3 : tie.Need-returns
returns-3 c = simp (ne_eqb _ _ c.if-d.false, ne_eqb _ _ c.if-d-2.false)

pub class_given_spec : {M : Type 1} → statement M
class_given_spec = tie.close (tie.spec
    cast-if1
    returns
    cast-if2
    returns-2
    returns-3)
