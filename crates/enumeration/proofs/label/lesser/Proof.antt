-- `lesser` is right: it is the definition.
-- Assumes nothing.
use borrow.Author.Tests.{lt-ltb, le-ltb}
use Rattle.enumeration.proofs.label.lesser.Statement.{statement}
use Rattle.enumeration.proofs.label.lesser.Tie as tie

returns : tie.Need-returns-then-a-b
returns c = simp (lt-ltb _ _ c.if-a-b.true)

returns-2 : tie.Need-returns
returns-2 c = simp (le-ltb _ _ c.if-a-b.false)

pub lesser_spec : {M : Type 1} → statement M
lesser_spec = tie.close (tie.spec
    returns
    returns-2)
