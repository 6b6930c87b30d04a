-- `source` is right: it is the definition.
-- Assumes nothing.
use native.Mathlib.Omega.{arith}
use Rattle.scope.proofs.Imports.{source_is, source_inside}
use borrow.Author.Rules.{rules}
use Rattle.scope.proofs.import.source.Statement.{statement}
use Rattle.scope.proofs.import.source.Tie as tie

find-requires : tie.Need-find-requires
find-requires c κs = search rules

add-result : tie.Need-overflow_add-result
add-result c =
    let s = c in
    omega (arith, source_inside s.args.classes.now s.args.i _ s.requires.1 c.find.ensures, s.requires.0)

returns : tie.Need-returns
returns c =
    let s = c in
    source_is s.args.classes.now s.args.i _ c.find.ensures

pub source_spec : {M : Type 1} → statement M
source_spec = tie.close (tie.spec
    find-requires
    add-result
    returns)
