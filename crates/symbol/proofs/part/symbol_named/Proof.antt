-- `symbol_named` is right because its table is that of the symbols' names.
-- Assumes nothing.
use mathlib.Core.Path.{refl}
use borrow.Author.Rules.{rules}
use Rattle.lexicon.specs.Word.{bytes, joined}
use Rattle.lexicon.proofs.Words.{starts_there}
use Rattle.symbol.specs.Symbol.{symbol_names, symbols, of_smi, of_tc}
use Rattle.symbol.proofs.Joined.{joined_table}
use Rattle.symbol.proofs.part.symbol_named.Statement.{statement}
use Rattle.symbol.proofs.part.symbol_named.Tie as tie

named_in_requires : tie.Need-named_in-requires
unfolding symbol_names symbols of_smi of_tc bytes joined starts_there
named_in_requires c κs =
    let s = c in
    (s.requires, joined_table symbol_names _ _ refl refl tt)

returns : tie.Need-returns
returns c = search rules

pub symbol_named_spec : {M : Type 1} → statement M
symbol_named_spec = tie.close (tie.spec
    named_in_requires
    returns)
