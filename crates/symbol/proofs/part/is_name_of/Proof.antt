-- `is_name_of` is right because the name stands between its start and the next one's.
-- Assumes nothing.
use borrow.Author.Rules.{rules}
use Rattle.symbol.proofs.part.is_name_of.Statement.{statement}
use Rattle.symbol.proofs.part.is_name_of.Tie as tie

start-requires : tie.Need-start-from-requires
start-requires c κs = search rules

add_start : tie.Need-overflow_add-k
add_start c = search rules

start-requires-2 : tie.Need-start-to-requires
start-requires-2 c κs = search rules

same-spelling-requires : tie.Need-same_spelling-requires
same-spelling-requires c κs = search rules

returns : tie.Need-returns
returns c = rw (← c.start-from.ensures, ← c.start-to.ensures) c.same_spelling.ensures

pub is_name_of_spec : {M : Type 1} → statement M
is_name_of_spec =
    tie.close (tie.spec
    start-requires
    add_start
    start-requires-2
    same-spelling-requires
    returns)
