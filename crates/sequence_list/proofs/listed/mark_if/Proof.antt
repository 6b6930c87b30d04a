-- `mark_if` is right by its test.
-- Assumes nothing.
use borrow.Author.Rules.{rules}
use Rattle.sequence_list.proofs.listed.mark_if.Statement.{statement}
use Rattle.sequence_list.proofs.listed.mark_if.Tie as tie

element-write-listed : tie.Need-bounds-listed-number
element-write-listed c = search rules

returns : tie.Need-returns-then-wanted
returns c = rw c.if-wanted.true

returns-2 : tie.Need-returns-else-wanted
returns-2 c = search rules

pub mark_if_spec : {M : Type 1} → statement M
mark_if_spec = tie.close (tie.spec
    element-write-listed
    returns
    returns-2)
