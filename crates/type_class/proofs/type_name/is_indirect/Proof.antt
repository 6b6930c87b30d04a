-- `is_indirect` is right: it is the definition.
-- Assumes nothing.
use borrow.Author.Rules.{rules}
use Rattle.type_class.proofs.type_name.is_indirect.Statement.{statement}
use Rattle.type_class.proofs.type_name.is_indirect.Tie as tie

syntax-in-requires : tie.Need-syntax_in-syntax-requires
syntax-in-requires c κs = search rules

cast-result : tie.Need-overflow_cast-result
cast-result c = search rules

names-another-requires : tie.Need-names_another-requires
names-another-requires c κs = search rules

returns : tie.Need-returns
returns c = rw (← c.syntax_in-syntax.ensures, ← c.names_another.ensures)

pub is_indirect_spec : {M : Type 1} → statement M
is_indirect_spec =
    tie.close (tie.spec
    syntax-in-requires
    cast-result
    names-another-requires
    returns)
