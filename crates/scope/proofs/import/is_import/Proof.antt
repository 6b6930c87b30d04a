-- `is_import` is right because its tests are those of the definition.
-- Assumes nothing.
use borrow.Author.Tests.{le-leb, lt-leb, lt-ltb, le-ltb}
use Rattle.scope.specs.Import.{imports_start, is_import}
use borrow.Author.Rules.{rules}
use Rattle.scope.proofs.import.is_import.Statement.{statement}
use Rattle.scope.proofs.import.is_import.Tie as tie

returns : tie.Need-returns-then-i-lt-IMPORTS_START
unfolding is_import
returns c = simp (lt-leb imports_start c.args.i c.if-i-lt-IMPORTS_START.true)

returns-2 : tie.Need-returns-then-end-i
unfolding is_import
returns-2 c =
    let s = c in
    rw (← s.requires) (simp (le-leb imports_start s.args.i c.if-i-lt-IMPORTS_START.false, le-ltb s.args.i s.args.end c.if-end-i.true))

is-symbol-requires : tie.Need-is_symbol-requires
is-symbol-requires c κs = search rules

returns-3 : tie.Need-returns
unfolding is_import
returns-3 c =
    let s = c in
    rw (← s.requires)
    (simp (le-leb imports_start s.args.i c.if-i-lt-IMPORTS_START.false, lt-ltb s.args.i s.args.end c.if-end-i.false) c.is_symbol.ensures)

pub is_import_spec : {M : Type 1} → statement M
is_import_spec = tie.close (tie.spec
    returns
    returns-2
    is-symbol-requires
    returns-3)
