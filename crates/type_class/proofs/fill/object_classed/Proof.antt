-- `object_classed` is right: it is the definition, kind by kind.
-- Assumes nothing.
use Rattle.type_class.specs.Stage.{object_classed}
use borrow.Author.Tests.{eq-eqb, ne_eqb}
use borrow.Author.Rules.{rules}
use Rattle.type_class.proofs.fill.object_classed.Statement.{statement}
use Rattle.type_class.proofs.fill.object_classed.Tie as tie

cast-if1 : tie.Need-overflow_cast-t-7
cast-if1 c = search rules

syntax-in-requires : tie.Need-syntax_in-syntax-requires
syntax-in-requires c κs = search rules

object-class-requires : tie.Need-object_class-class-requires
object-class-requires c κs = search rules

sequence-number-requires : tie.Need-sequence_number-requires
sequence-number-requires c κs = search rules

with-class-requires : tie.Need-with_class-requires
with-class-requires c κs = search rules

returns : tie.Need-returns-then-d
unfolding object_classed
returns c = simp (eq-eqb _ _ c.if-d.true) (cc)

returns-2 : tie.Need-returns
unfolding object_classed
returns-2 c = simp (ne_eqb _ _ c.if-d.false)

pub object_classed_spec : {M : Type 1} → statement M
object_classed_spec =
    tie.close
    (tie.spec
    cast-if1
    syntax-in-requires
    object-class-requires
    sequence-number-requires
    with-class-requires
    returns
    returns-2)
