-- `sort_at` is right because past the last symbol there is none.
-- Assumes nothing.
use Rattle.name_kind.proofs.Served.{sort_past}
use borrow.Author.Rules.{rules}
use Rattle.name_kind.proofs.sort_at.Statement.{statement}
use Rattle.name_kind.proofs.sort_at.Tie as tie

sort-of-requires : tie.Need-sort_of-requires
sort-of-requires c κs = search rules

returns : tie.Need-returns-then-k-lt-SYMBOLS
returns c = search rules

returns-2 : tie.Need-returns
returns-2 c = sort_past c.args.k c.if-k-lt-SYMBOLS.false

pub sort_at_spec : {M : Type 1} → statement M
sort_at_spec = tie.close (tie.spec
    sort-of-requires
    returns
    returns-2)
