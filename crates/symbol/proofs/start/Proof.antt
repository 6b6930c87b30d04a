-- `start` is right because it reads the table's entry.
-- Assumes nothing.
use borrow.Author.Rules.{rules}
use Rattle.symbol.specs.Symbol.{start_in}
use Rattle.symbol.proofs.start.Statement.{statement}
use Rattle.symbol.proofs.start.Tie as tie

mul-wide-u16 : tie.Need-offset_bounds-starts-k
mul-wide-u16 c = search rules

shared-slice-read-wide-u16 : tie.Need-bounds-starts-k
shared-slice-read-wide-u16 c = search rules

wide-u16-requires : tie.Need-wide_u16-requires
wide-u16-requires c κs = search rules

returns : tie.Need-returns
unfolding start_in
returns c = search rules

pub start_spec : {M : Type 1} → statement M
start_spec = tie.close (tie.spec
    mul-wide-u16
    shared-slice-read-wide-u16
    wide-u16-requires
    returns)
