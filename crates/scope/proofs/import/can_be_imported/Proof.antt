-- `can_be_imported` is right because its tests are those of the definition, in its order.
-- Assumes nothing.
use mathlib.Core.Path.{sym, ◌∙◌}
use borrow.Author.Tests.{eq-eqb, ne_eqb}
use Rattle.scope.specs.Import.{can_be_imported}
use borrow.Author.Rules.{rules}
use Rattle.scope.proofs.import.can_be_imported.Statement.{statement}
use Rattle.scope.proofs.import.can_be_imported.Tie as tie

returns : tie.Need-returns-then-class-eq-UPPER
unfolding can_be_imported
returns c = simp (eq-eqb _ _ c.if-class-eq-UPPER.true)

is-lower-requires : tie.Need-is_lower-requires
is-lower-requires c κs = search rules

returns-2 : tie.Need-returns-then-is_lower
unfolding can_be_imported
returns-2 c = simp (ne_eqb _ _ c.if-class-eq-UPPER.false, sym c.is_lower.ensures ∙ c.if-is_lower.true)

is-macro-requires : tie.Need-is_macro-requires
is-macro-requires c κs = search rules

returns-3 : tie.Need-returns
unfolding can_be_imported
returns-3 c = simp (ne_eqb _ _ c.if-class-eq-UPPER.false, sym c.is_lower.ensures ∙ c.if-is_lower.false) c.is_macro.ensures

pub can_be_imported_spec : {M : Type 1} → statement M
can_be_imported_spec =
    tie.close (tie.spec
    returns
    is-lower-requires
    returns-2
    is-macro-requires
    returns-3)
