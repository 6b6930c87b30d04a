-- `lower_need` is right: it is the definition, test by test.
-- Assumes nothing.
use borrow.Author.Rules.{rules}
use borrow.Author.Tests.{eq-eqb, ne_eqb}
use Rattle.name_kind.specs.Need.{lower_need}
use Rattle.name_kind.proofs.need.lower_need.Statement.{statement}
use Rattle.name_kind.proofs.need.lower_need.Tie as tie

lists-objects-requires : tie.Need-lists_objects-requires
lists-objects-requires c κs = search rules

returns : tie.Need-returns-then-lists_objects
unfolding lower_need
returns c = rw (← c.lists_objects.ensures) (simp c.if-lists_objects.true)

returns-2 : tie.Need-returns-then-word-ne-ASSIGN
unfolding lower_need
returns-2 c =
    let objects = c in
    rw (← objects.lists_objects.ensures) (simp (objects.if-lists_objects.false, ne_eqb _ _ c.if-word-ne-ASSIGN.true))

class-before-requires : tie.Need-class_before-before-requires
class-before-requires c κs = search rules

returns-3 : tie.Need-returns-then-before-eq-LEFT_BRACE
unfolding lower_need
returns-3 c =
    let assign = c in
    let objects = assign in
    rw (← objects.lists_objects.ensures, ← c.class_before-before.ensures)
    (simp (objects.if-lists_objects.false, eq-eqb _ _ assign.if-word-ne-ASSIGN.false, eq-eqb _ _ c.if-before-eq-LEFT_BRACE.true))

returns-4 : tie.Need-returns-else-before-eq-LEFT_BRACE
unfolding lower_need
returns-4 c =
    let assign = c in
    let objects = assign in
    rw (← objects.lists_objects.ensures, ← c.class_before-before.ensures)
    (simp (objects.if-lists_objects.false, eq-eqb _ _ assign.if-word-ne-ASSIGN.false, ne_eqb _ _ c.if-before-eq-LEFT_BRACE.false))

pub lower_need_spec : {M : Type 1} → statement M
lower_need_spec =
    tie.close
    (tie.spec
    lists-objects-requires
    returns
    returns-2
    class-before-requires
    returns-3
    returns-4)
