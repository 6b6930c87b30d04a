-- `convention_classed` is right: it is the definition, kind by kind.
-- Assumes nothing.
use Rattle.type_class.specs.Stage.{convention_classed}
use borrow.Author.Tests.{eq-eqb, ne_eqb}
use borrow.Author.Rules.{rules}
use Rattle.type_class.proofs.fill.convention_classed.Statement.{statement}
use Rattle.type_class.proofs.fill.convention_classed.Tie as tie

cast-if1 : tie.Need-overflow_cast-t-5
cast-if1 c = search rules

syntax-in-requires : tie.Need-syntax_in-requires
syntax-in-requires c κs = search rules

convention-class-requires : tie.Need-convention_class-class-requires
convention-class-requires c κs = search rules

with-class-requires : tie.Need-with_class-requires
with-class-requires c κs = search rules

returns : tie.Need-returns-then-d
unfolding convention_classed
returns c = simp (eq-eqb _ _ c.if-d.true) (cc)

returns-2 : tie.Need-returns
unfolding convention_classed
returns-2 c = simp (ne_eqb _ _ c.if-d.false)

pub convention_classed_spec : {M : Type 1} → statement M
convention_classed_spec =
    tie.close
    (tie.spec
    cast-if1
    syntax-in-requires
    convention-class-requires
    with-class-requires
    returns
    returns-2)
