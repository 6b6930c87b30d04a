-- `convention_class` is right: it is the definition.
-- Assumes nothing.
use Rattle.type_class.specs.Class.{convention_class}
use mathlib.Core.Path.{sym, ◌∙◌}
use borrow.Author.Rules.{rules}
use Rattle.type_class.proofs.class_of.convention_class.Statement.{statement}
use Rattle.type_class.proofs.class_of.convention_class.Tie as tie

names-another-requires : tie.Need-names_another-requires
names-another-requires c κs = search rules

returns : tie.Need-returns-then-names_another
unfolding convention_class
returns c = simp (sym c.names_another.ensures ∙ c.if-names_another.true)

lead-of-requires : tie.Need-lead_of-requires
lead-of-requires c κs = search rules

built-in-class-requires : tie.Need-built_in_class-requires
built-in-class-requires c κs = search rules

syntax-class-requires : tie.Need-syntax_class-requires
syntax-class-requires c κs = search rules

returns-2 : tie.Need-returns
unfolding convention_class
returns-2 c = simp (sym c.names_another.ensures ∙ c.if-names_another.false) (cc)

pub convention_class_spec : {M : Type 1} → statement M
convention_class_spec =
    tie.close
    (tie.spec
    names-another-requires
    returns
    lead-of-requires
    built-in-class-requires
    syntax-class-requires
    returns-2)
