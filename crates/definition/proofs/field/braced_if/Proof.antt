-- `braced_if` is right: it goes by cases as the definition does.
-- Assumes nothing.
use borrow.Author.Rules.{rules}
use Rattle.definition.proofs.field.braced_if.Statement.{statement}
use Rattle.definition.proofs.field.braced_if.Tie as tie

braced-at-requires : tie.Need-braced_at-requires
braced-at-requires c κs = search rules

returns : tie.Need-returns-then-wanted
returns c = rw (← c.braced_at.ensures) (simp c.if-wanted.true)

returns-2 : tie.Need-returns-else-wanted
returns-2 c = simp c.if-wanted.false

pub braced_if_spec : {M : Type 1} → statement M
braced_if_spec = tie.close (tie.spec
    braced-at-requires
    returns
    returns-2)
