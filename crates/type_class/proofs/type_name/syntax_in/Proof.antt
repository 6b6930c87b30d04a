-- `syntax_in` is right: all tokens are lent.
-- Assumes nothing.
use lib.Seq.{take-length}
use Rattle.type_class.specs.Class.{syntax_in}
use borrow.Author.Tests.{lt-ltb, le-ltb}
use borrow.Author.Rules.{rules}
use Rattle.type_class.proofs.type_name.syntax_in.Statement.{statement}
use Rattle.type_class.proofs.type_name.syntax_in.Tie as tie

syntax-at-requires : tie.Need-syntax_at-requires
syntax-at-requires c κs = search rules

returns : tie.Need-returns-then-from-classes
unfolding syntax_in
returns c = simp (lt-ltb _ _ c.if-from-classes.true) (simp take-length at c.syntax_at.ensures)

returns-2 : tie.Need-returns
unfolding syntax_in
returns-2 c = simp (le-ltb _ _ c.if-from-classes.false)

pub syntax_in_spec : {M : Type 1} → statement M
syntax_in_spec = tie.close (tie.spec
    syntax-at-requires
    returns
    returns-2)
