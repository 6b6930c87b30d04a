-- `item_other` is right: it is the definition.
-- Assumes nothing.
use borrow.Author.Tests.{lt-ltb, le-ltb}
use Rattle.enumeration.proofs.item.item_other.Statement.{statement}
use Rattle.enumeration.proofs.item.item_other.Tie as tie

returns : tie.Need-returns-then-label-token
returns c = simp (lt-ltb _ _ c.if-label-token.true)

returns-2 : tie.Need-returns
returns-2 c = simp (le-ltb _ _ c.if-label-token.false)

pub item_other_spec : {M : Type 1} → statement M
item_other_spec = tie.close (tie.spec
    returns
    returns-2)
