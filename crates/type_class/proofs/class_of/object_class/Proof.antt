-- `object_class` is right: it is the definition.
-- Assumes nothing.
use Rattle.type_class.specs.Class.{object_class}
use borrow.Author.Rules.{rules}
use Rattle.type_class.proofs.class_of.object_class.Statement.{statement}
use Rattle.type_class.proofs.class_of.object_class.Tie as tie

lead-of-requires : tie.Need-lead_of-requires
lead-of-requires c κs = search rules

lead-class-requires : tie.Need-lead_class-requires
lead-class-requires c κs = search rules

syntax-class-requires : tie.Need-syntax_class-requires
syntax-class-requires c κs = search rules

returns : tie.Need-returns
unfolding object_class
returns c = cc

pub object_class_spec : {M : Type 1} → statement M
object_class_spec =
    tie.close (tie.spec
    lead-of-requires
    lead-class-requires
    syntax-class-requires
    returns)
