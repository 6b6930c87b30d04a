-- `type_of` is right by its test.
-- Assumes nothing.
use borrow.Author.Tests.{lt-ltb, le-ltb}
use borrow.Author.Rules.{rules}
use Rattle.sequence_list.proofs.name.type_of.Statement.{statement}
use Rattle.sequence_list.proofs.name.type_of.Tie as tie

add-if1 : tie.Need-overflow_add-t-2
add-if1 c = search rules

returns : tie.Need-returns-then-d
returns c = simp (lt-ltb _ _ c.if-d.true)

returns-2 : tie.Need-returns
returns-2 c = simp (le-ltb _ _ c.if-d.false)

pub type_of_spec : {M : Type 1} → statement M
type_of_spec = tie.close (tie.spec
    add-if1
    returns
    returns-2)
