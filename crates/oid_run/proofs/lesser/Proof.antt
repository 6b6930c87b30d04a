-- `lesser` is right by its test.
-- Assumes nothing.
use borrow.Author.Tests.{lt-ltb, le-ltb}
use Rattle.oid_run.proofs.lesser.Statement.{statement}
use Rattle.oid_run.proofs.lesser.Tie as tie

returns : tie.Need-returns-then-b-a
returns c = simp (lt-ltb _ _ c.if-b-a.true)

returns-2 : tie.Need-returns
returns-2 c = simp (le-ltb _ _ c.if-b-a.false)

pub lesser_spec : {M : Type 1} → statement M
lesser_spec = tie.close (tie.spec
    returns
    returns-2)
