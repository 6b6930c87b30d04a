-- `symbol_length` is right: past the last symbol there are no numbers.
-- Assumes nothing.
use mathlib.Core.Path.{sym, ap}
use lib.ListN.{length}
use Rattle.oid_number.proofs.Symbols.{past_symbols}
use borrow.Author.Rules.{rules}
use Rattle.oid_number.proofs.built_in.symbol_length.Statement.{statement}
use Rattle.oid_number.proofs.built_in.symbol_length.Tie as tie

oid-length-requires : tie.Need-oid_length-requires
oid-length-requires c κs = search rules

returns : tie.Need-returns-then-k-lt-SYMBOLS
returns c = search rules

returns-2 : tie.Need-returns
returns-2 c = sym (ap length (past_symbols c.args.k c.if-k-lt-SYMBOLS.false))

pub symbol_length_spec : {M : Type 1} → statement M
symbol_length_spec = tie.close (tie.spec
    oid-length-requires
    returns
    returns-2)
