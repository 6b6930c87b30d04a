-- `has_number` is right: it is the definition.
-- Assumes nothing.
use borrow.Author.Rules.{rules}
use Rattle.enumeration.proofs.item.has_number.Statement.{statement}
use Rattle.enumeration.proofs.item.has_number.Tie as tie

class-at-requires : tie.Need-class_at-requires
class-at-requires c κs = search rules

is-lower-requires : tie.Need-is_lower-requires
is-lower-requires c κs = search rules

add-is-same-number : tie.Need-overflow_add-j
add-is-same-number c = search rules

add-is-same-number-2 : tie.Need-overflow_add-i
add-is-same-number-2 c = search rules

is-same-number-requires : tie.Need-is_same_number-requires
is-same-number-requires c κs = search rules

returns : tie.Need-returns
returns c = rw (← c.class_at.ensures, ← c.is_lower.ensures, ← c.is_same_number.ensures)

pub has_number_spec : {M : Type 1} → statement M
has_number_spec =
    tie.close
    (tie.spec
    class-at-requires
    is-lower-requires
    add-is-same-number
    add-is-same-number-2
    is-same-number-requires
    returns)
