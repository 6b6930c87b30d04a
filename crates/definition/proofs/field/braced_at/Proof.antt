-- `braced_at` is right: the span starts two tokens after the word, and ends at the first } from there on.
-- Assumes nothing.
use borrow.Author.Tests.{lt-ltb, le-ltb}
use Rattle.definition.specs.Fields.{braced_at}
use borrow.Author.Rules.{rules}
use Rattle.definition.proofs.field.braced_at.Statement.{statement}
use Rattle.definition.proofs.field.braced_at.Tie as tie

add-from : tie.Need-overflow_add-from
add-from c = search rules

find-requires : tie.Need-find-to-requires
find-requires c κs = search rules

returns : tie.Need-returns-then-w-e
unfolding braced_at
returns c = rw (← c.find-to.ensures) (simp (lt-ltb _ _ c.if-w-e.true))

returns-2 : tie.Need-returns-else-w-e
unfolding braced_at
returns-2 c = simp (le-ltb _ _ c.if-w-e.false)

pub braced_at_spec : {M : Type 1} → statement M
braced_at_spec = tie.close (tie.spec
    add-from
    find-requires
    returns
    returns-2)
