-- `is_backward` is right: it is the definition.
-- Assumes nothing.
use Rattle.range_list.specs.Misplaced.{is_backward}
use borrow.Author.Rules.{rules}
use Rattle.range_list.proofs.range.is_backward.Statement.{statement}
use Rattle.range_list.proofs.range.is_backward.Tie as tie

high-token-requires : tie.Need-high_token-high-requires
high-token-requires c κs = search rules

add-class-at : tie.Need-overflow_add-i
add-class-at c = search rules

class-at-requires : tie.Need-class_at-requires
class-at-requires c κs = search rules

is-less-requires : tie.Need-is_less-requires
is-less-requires c κs = search rules

returns : tie.Need-returns
unfolding is_backward
returns c = rw (← c.high_token-high.ensures, ← c.class_at.ensures, ← c.is_less.ensures)

pub is_backward_spec : {M : Type 1} → statement M
is_backward_spec =
    tie.close
    (tie.spec
    high-token-requires
    add-class-at
    class-at-requires
    is-less-requires
    returns)
