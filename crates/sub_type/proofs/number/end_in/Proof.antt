-- `end_in` is right: it is the definition.
-- Assumes nothing.
use borrow.Author.Tests.{lt-ltb, le-ltb}
use Rattle.sub_type.proofs.number.end_in.Statement.{statement}
use Rattle.sub_type.proofs.number.end_in.Tie as tie

returns : tie.Need-returns-then-to-classes
returns c = simp (lt-ltb _ _ c.if-to-classes.true)

returns-2 : tie.Need-returns
returns-2 c = simp (le-ltb _ _ c.if-to-classes.false)

pub end_in_spec : {M : Type 1} → statement M
end_in_spec = tie.close (tie.spec
    returns
    returns-2)
