-- `is_below` is right: it is the definition.
-- Assumes nothing.
use Rattle.range_list.specs.Misplaced.{is_below}
use borrow.Author.Rules.{rules}
use Rattle.range_list.proofs.range.is_below.Statement.{statement}
use Rattle.range_list.proofs.range.is_below.Tie as tie

high-token-requires : tie.Need-high_token-requires
high-token-requires c κs = search rules

is-less-requires : tie.Need-is_less-requires
is-less-requires c κs = search rules

returns : tie.Need-returns
unfolding is_below
returns c = rw (← c.high_token.ensures) c.is_less.ensures

pub is_below_spec : {M : Type 1} → statement M
is_below_spec = tie.close (tie.spec
    high-token-requires
    is-less-requires
    returns)
