-- `starts_range` is right: it is the definition.
-- Assumes nothing.
use Rattle.sub_type.specs.Range.{starts_range}
use borrow.Author.Rules.{rules}
use Rattle.sub_type.proofs.range.starts_range.Statement.{statement}
use Rattle.sub_type.proofs.range.starts_range.Tie as tie

class-at-requires : tie.Need-class_at-requires
class-at-requires c κs = search rules

is-number-requires : tie.Need-is_number-requires
is-number-requires c κs = search rules

less-requires : tie.Need-less-requires
less-requires c κs = search rules

class-at-requires-2 : tie.Need-class_at-requires-2
class-at-requires-2 c κs = search rules

returns : tie.Need-returns
unfolding starts_range
returns c =
    rw (← c.less.ensures, ← c.class_at-2.ensures, ← c.class_at.ensures, ← c.is_number.ensures)

pub starts_range_spec : {M : Type 1} → statement M
starts_range_spec =
    tie.close
    (tie.spec
    class-at-requires
    is-number-requires
    less-requires
    class-at-requires-2
    returns)
