-- `is_sharing` is right: it is the definition.
-- Assumes nothing.
use borrow.Author.Rules.{rules}
use Rattle.range_list.proofs.range.is_sharing.Statement.{statement}
use Rattle.range_list.proofs.range.is_sharing.Tie as tie

starts-range-requires : tie.Need-starts_range-requires
starts-range-requires c κs = search rules

shares-requires : tie.Need-shares-requires
shares-requires c κs = search rules

returns : tie.Need-returns
returns c = rw (← c.starts_range.ensures, ← c.shares.ensures)

pub is_sharing_spec : {M : Type 1} → statement M
is_sharing_spec = tie.close (tie.spec
    starts-range-requires
    shares-requires
    returns)
