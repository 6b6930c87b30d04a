-- `word_at` is right: below the base the difference is 0, and from the base on it is taken.
-- Assumes nothing.
use native.Mathlib.Omega.{arith}
use borrow.Author.Tests.{lt-ltb, le-ltb}
use Rattle.definition.specs.Fields.{word_at}
use borrow.Author.Rules.{rules}
use Rattle.definition.proofs.field.word_at.Statement.{statement}
use Rattle.definition.proofs.field.word_at.Tie as tie

add-class-at : tie.Need-overflow_add-w
add-class-at c = search rules

class-at-requires : tie.Need-class_at-next-requires
class-at-requires c κs = search rules

add-result : tie.Need-overflow_add-result
add-result c = search rules

returns : tie.Need-returns-then-next-base
unfolding word_at
returns c = rw (← c.class_at-next.ensures) (simp (lt-ltb _ _ c.if-w-e.true) (omega arith))

returns-2 : tie.Need-returns-else-next-base
unfolding word_at
returns-2 c = rw (← c.class_at-next.ensures) (simp (lt-ltb _ _ c.if-w-e.true))

returns-3 : tie.Need-returns-else-w-e
unfolding word_at
returns-3 c = simp (le-ltb _ _ c.if-w-e.false)

pub word_at_spec : {M : Type 1} → statement M
word_at_spec =
    tie.close (tie.spec
    add-class-at
    class-at-requires
    add-result
    returns
    returns-2
    returns-3)
