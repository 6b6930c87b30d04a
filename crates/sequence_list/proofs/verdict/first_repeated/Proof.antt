-- `first_repeated` is right: no object has a mark at first.
-- Assumes nothing.
use native.Mathlib.Omega.{arith}
use Rattle.sequence_list.proofs.Verdicts.{none_stamped, stamped_more}
use Rattle.sequence_list.proofs.verdict.first_repeated.Statement.{statement}
use Rattle.sequence_list.proofs.verdict.first_repeated.Tie as tie

search-repeated-requires : tie.Need-search_repeated-requires
search-repeated-requires c κs = (stamped_more none_stamped (omega arith), c.requires)

returns : tie.Need-returns
returns c = c.search_repeated.ensures.is

pub first_repeated_spec : {M : Type 1} → statement M
first_repeated_spec = tie.close (tie.spec
    search-repeated-requires
    returns)
