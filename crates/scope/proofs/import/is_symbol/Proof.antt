-- `is_symbol` is right because its tests are those of the definition.
-- Assumes nothing.
use mathlib.Core.Path.{ap, sym, ◌∙◌}
use borrow.Author.Tests.{eq-eqb, ne_eqb}
use Rattle.scope.specs.Import.{is_symbol, can_be_imported}
use borrow.Author.Rules.{rules}
use Rattle.scope.proofs.import.is_symbol.Statement.{statement}
use Rattle.scope.proofs.import.is_symbol.Tie as tie

sub-class-at : tie.Need-overflow_sub-i
sub-class-at c = search rules

class-at-requires : tie.Need-class_at-requires
class-at-requires c κs = search rules

returns : tie.Need-returns-then-class_at-eq-FROM
unfolding is_symbol
returns c = simp (eq-eqb _ _ (sym c.class_at.ensures ∙ c.if-class_at-eq-FROM.true))

class-at-requires-2 : tie.Need-class_at-requires-2
class-at-requires-2 c κs = search rules

can-be-imported-requires : tie.Need-can_be_imported-requires
can-be-imported-requires c κs = search rules

returns-2 : tie.Need-returns
unfolding is_symbol
returns-2 c =
    simp (ne_eqb _ _ (λ e. c.if-class_at-eq-FROM.false (c.class_at.ensures ∙ e)))
    (c.can_be_imported.ensures ∙ ap can_be_imported c.class_at-2.ensures)

pub is_symbol_spec : {M : Type 1} → statement M
is_symbol_spec =
    tie.close
    (tie.spec
    sub-class-at
    class-at-requires
    returns
    class-at-requires-2
    can-be-imported-requires
    returns-2)
