-- `has_label` is right: it is the definition.
-- Assumes nothing.
use borrow.Author.Rules.{rules}
use Rattle.enumeration.proofs.label.has_label.Statement.{statement}
use Rattle.enumeration.proofs.label.has_label.Tie as tie

class-at-requires : tie.Need-class_at-requires
class-at-requires c κs = search rules

is-lower-requires : tie.Need-is_lower-requires
is-lower-requires c κs = search rules

same-label-requires : tie.Need-same_label-requires
same-label-requires c κs = search rules

returns : tie.Need-returns
returns c = rw (← c.class_at.ensures, ← c.is_lower.ensures, ← c.same_label.ensures)

pub has_label_spec : {M : Type 1} → statement M
has_label_spec =
    tie.close (tie.spec
    class-at-requires
    is-lower-requires
    same-label-requires
    returns)
