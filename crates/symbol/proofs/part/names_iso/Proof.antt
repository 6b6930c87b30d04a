-- `names_iso` is right because its bytes are those of `iso`.
-- Assumes nothing.
use borrow.Author.Rules.{rules}
use Rattle.lexicon.specs.Word.{bytes}
use Rattle.symbol.specs.Symbol.{iso_name}
use Rattle.symbol.proofs.part.names_iso.Statement.{statement}
use Rattle.symbol.proofs.part.names_iso.Tie as tie

same-spelling-requires : tie.Need-same_spelling-requires
same-spelling-requires c κs = search rules

returns : tie.Need-returns
unfolding iso_name bytes
returns c = c.same_spelling.ensures

pub names_iso_spec : {M : Type 1} → statement M
names_iso_spec = tie.close (tie.spec
    same-spelling-requires
    returns)
