-- `start_of` is right by what is told of the definition.
-- Assumes nothing.
use mathlib.Core.Path.{sym, ◌∙◌}
use borrow.Author.Rules.{rules}
use Rattle.oid_tree.proofs.length.start_of.Statement.{statement}
use Rattle.oid_tree.proofs.length.start_of.Tie as tie

has-value-requires : tie.Need-has_value-requires
has-value-requires c κs = search rules

returns : tie.Need-returns-then-has_value
returns c = let v = sym c.has_value.ensures ∙ c.if-has_value.true in rw v

returns-2 : tie.Need-returns-else-has_value
returns-2 c = let v = sym c.has_value.ensures ∙ c.if-has_value.false in rw v

pub start_of_spec : {M : Type 1} → statement M
start_of_spec = tie.close (tie.spec
    has-value-requires
    returns
    returns-2)
