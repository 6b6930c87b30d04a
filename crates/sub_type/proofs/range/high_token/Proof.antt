-- `high_token` is right: it is the definition.
-- Assumes nothing.
use borrow.Author.Tests.{eq-eqb, ne_eqb}
use borrow.Author.Rules.{rules}
use Rattle.sub_type.proofs.range.high_token.Statement.{statement}
use Rattle.sub_type.proofs.range.high_token.Tie as tie

add-class-at : tie.Need-overflow_add-i
add-class-at c = search rules

class-at-requires : tie.Need-class_at-requires
class-at-requires c κs = search rules

add-result : tie.Need-overflow_add-result
add-result c = search rules

returns : tie.Need-returns-then-class_at-eq-DOTS
returns c = rw (← c.class_at.ensures) (simp (eq-eqb _ _ c.if-class_at-eq-DOTS.true))

returns-2 : tie.Need-returns
returns-2 c = rw (← c.class_at.ensures) (simp (ne_eqb _ _ c.if-class_at-eq-DOTS.false))

pub high_token_spec : {M : Type 1} → statement M
high_token_spec = tie.close (tie.spec
    add-class-at
    class-at-requires
    add-result
    returns
    returns-2)
