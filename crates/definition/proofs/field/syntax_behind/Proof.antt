-- `syntax_behind` is right: the span starts after the word, and ends at the first word from there on that ends it.
-- Assumes nothing.
use borrow.Author.Tests.{lt-ltb, le-ltb}
use Rattle.definition.specs.Fields.{syntax_behind}
use borrow.Author.Rules.{rules}
use Rattle.definition.proofs.field.syntax_behind.Statement.{statement}
use Rattle.definition.proofs.field.syntax_behind.Tie as tie

add-from : tie.Need-overflow_add-from
add-from c = search rules

find-syntax-end-requires : tie.Need-find_syntax_end-to-requires
find-syntax-end-requires c κs = search rules

returns : tie.Need-returns-then-w-e
unfolding syntax_behind
returns c = rw (← c.find_syntax_end-to.ensures) (simp (lt-ltb _ _ c.if-w-e.true))

returns-2 : tie.Need-returns-else-w-e
unfolding syntax_behind
returns-2 c = simp (le-ltb _ _ c.if-w-e.false)

pub syntax_behind_spec : {M : Type 1} → statement M
syntax_behind_spec = tie.close (tie.spec
    add-from
    find-syntax-end-requires
    returns
    returns-2)
