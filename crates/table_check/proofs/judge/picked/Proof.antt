-- `picked` is right, test by test.
-- Assumes nothing.
use mathlib.Core.Path.{sym, ◌∙◌}
use borrow.Author.Tests.{eq-eqb, ne_eqb}
use borrow.Author.Rules.{rules}
use Rattle.table_check.proofs.judge.picked.Statement.{statement}
use Rattle.table_check.proofs.judge.picked.Tie as tie

is-object-requires : tie.Need-is_object-requires
is-object-requires c κs = search rules

returns : tie.Need-returns-then-not-is_object
returns c = rw (sym c.is_object.ensures ∙ c.if-not-is_object.true)

returns-2 : tie.Need-returns-then-row-ne0
returns-2 c = rw (sym c.is_object.ensures ∙ c.if-not-is_object.false, ne_eqb _ 0 c.if-row-ne0.true)

returns-3 : tie.Need-returns
returns-3 c = rw (sym c.is_object.ensures ∙ c.if-not-is_object.false, eq-eqb _ 0 c.if-row-ne0.false)

pub picked_spec : {M : Type 1} → statement M
picked_spec = tie.close (tie.spec
    is-object-requires
    returns
    returns-2
    returns-3)
