-- `oid_length` is right because the next symbol's numbers start where those of this one end.
-- Assumes nothing.
use mathlib.Core.Path.{◌≡◌, refl}
use Prim.Native.Nat.{◌+◌}
use native.Mathlib.Omega.{arith}
use lib.ListN.{length}
use borrow.Author.Rules.{rules}
use Rattle.lexicon.specs.Word.{joined}
use Rattle.lexicon.proofs.Words.{starts_there}
use Rattle.symbol.specs.Symbol.{symbols, of_smi, of_tc, below_internet, internet, numbers, numbers_of}
use Rattle.symbol.proofs.Joined.{joined_table}
use Rattle.symbol.proofs.Symbols.{symbol_numbers, numbers_length}
use Rattle.symbol.proofs.oid_length.Statement.{statement}
use Rattle.symbol.proofs.oid_length.Tie as tie

start-requires : tie.Need-start-from-requires
start-requires c κs = search rules

add_start : tie.Need-overflow_add-k
add_start c = search rules

start-requires-2 : tie.Need-start-to-requires
start-requires-2 c κs = search rules

-- where the numbers start and end
abbrev start_of : tie.After-start-to → tie.Start
start_of c = c.before.before.before.before.before.before

ends : (c : tie.After-start-to) → c.start-to.result ≡ c.start-from.result + length (numbers_of (start_of c).args.k)
unfolding symbol_numbers symbols of_smi of_tc below_internet internet numbers joined starts_there
ends c =
    let table = joined_table symbol_numbers _ _ refl refl tt in
    numbers_length (start_of c).args.k (start_of c).requires c.start-from.ensures table c.start-to.ensures

sub-result : tie.Need-overflow_sub-result
sub-result c = omega (arith, ends c)

returns : tie.Need-returns
returns c = omega (arith, ends c)

pub oid_length_spec : {M : Type 1} → statement M
oid_length_spec =
    tie.close
    (tie.spec
    start-requires
    add_start
    start-requires-2
    sub-result
    returns)
