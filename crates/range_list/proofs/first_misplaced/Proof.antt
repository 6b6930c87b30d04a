-- `first_misplaced` is right: what the first search has not decided, the second does.
-- Assumes nothing.
use Rattle.range_list.proofs.Spreading.{at_end}
use borrow.Author.Rules.{rules}
use Rattle.range_list.proofs.first_misplaced.Statement.{statement}
use Rattle.range_list.proofs.first_misplaced.Tie as tie

first-between-requires : tie.Need-first_between-clear-requires
first-between-requires c κs = search rules

returns : tie.Need-returns-then-span-clear
returns c =
    let f = c in
    at_end _ _ _ _ f.first_between-clear.ensures.0 f.first_between-clear.ensures.1 c.if-span-clear.true

search-sorted-requires : tie.Need-search_sorted-requires
search-sorted-requires c κs = search rules

returns-2 : tie.Need-returns
returns-2 c = search rules

pub first_misplaced_spec : {M : Type 1} → statement M
first_misplaced_spec =
    tie.close
    (tie.spec
    first-between-requires
    returns
    search-sorted-requires
    returns-2)
