-- `item_clause` is right: it is the definition.
-- Assumes nothing.
use borrow.Author.Tests.{lt-ltb, le-ltb}
use Rattle.enumeration.proofs.item.item_clause.Statement.{statement}
use Rattle.enumeration.proofs.item.item_clause.Tie as tie

returns : tie.Need-returns-then-label-token
returns c = simp (lt-ltb _ _ c.if-label-token.true)

returns-2 : tie.Need-returns-then-number-token
returns-2 c = simp (le-ltb _ _ c.if-label-token.false, lt-ltb _ _ c.if-number-token.true)

returns-3 : tie.Need-returns
returns-3 c = simp (le-ltb _ _ c.if-label-token.false, le-ltb _ _ c.if-number-token.false)

pub item_clause_spec : {M : Type 1} → statement M
item_clause_spec = tie.close (tie.spec
    returns
    returns-2
    returns-3)
