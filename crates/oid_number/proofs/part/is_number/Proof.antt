-- `is_number` is right: past the last token there is none.
-- Assumes nothing.
use borrow.Author.Tests.{lt-ltb, le-ltb}
use borrow.Author.Rules.{rules}
use Rattle.oid_number.proofs.part.is_number.Statement.{statement}
use Rattle.oid_number.proofs.part.is_number.Tie as tie

shared-slice-read-result : tie.Need-bounds-classes-i
shared-slice-read-result c = search rules

returns : tie.Need-returns-then-i-classes
returns c = let h = lt-ltb _ _ c.if-i-classes.true in rw h

returns-2 : tie.Need-returns
returns-2 c = let h = le-ltb _ _ c.if-i-classes.false in rw h

pub is_number_spec : {M : Type 1} → statement M
is_number_spec = tie.close (tie.spec
    shared-slice-read-result
    returns
    returns-2)
