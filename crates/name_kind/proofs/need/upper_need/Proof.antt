-- `upper_need` is right: it is the definition, test by test.
-- Assumes nothing.
use borrow.Author.Rules.{rules}
use borrow.Author.Tests.{eq-eqb, ne_eqb}
use Rattle.name_kind.specs.Need.{upper_need}
use Rattle.name_kind.proofs.need.upper_need.Statement.{statement}
use Rattle.name_kind.proofs.need.upper_need.Tie as tie

class-before-requires : tie.Need-class_before-before-requires
class-before-requires c κs = search rules

class-before-requires-2 : tie.Need-class_before-requires
class-before-requires-2 c κs = search rules

is-lower-requires : tie.Need-is_lower-requires
is-lower-requires c κs = search rules

returns : tie.Need-returns-then-before-eq-OF
unfolding upper_need
returns c = rw (← c.class_before-before.ensures) (simp (eq-eqb _ _ c.if-before-eq-OF.true))

returns-2 : tie.Need-returns-then-class_before-eq-OBJECT_TYPE
unfolding upper_need
returns-2 c =
    let syntax = c in
    let of = syntax in
    rw (← of.class_before-before.ensures, ← c.class_before.ensures)
    (simp (ne_eqb _ _ of.if-before-eq-OF.false, eq-eqb _ _ syntax.if-before-eq-SYNTAX.true, eq-eqb _ _ c.if-class_before-eq-OBJECT_TYPE.true))

returns-3 : tie.Need-returns-else-class_before-eq-OBJECT_TYPE
unfolding upper_need
returns-3 c =
    let syntax = c in
    let of = syntax in
    rw (← of.class_before-before.ensures, ← c.class_before.ensures)
    (simp (ne_eqb _ _ of.if-before-eq-OF.false, eq-eqb _ _ syntax.if-before-eq-SYNTAX.true, ne_eqb _ _ c.if-class_before-eq-OBJECT_TYPE.false))

returns-4 : tie.Need-returns-then-is_lower
unfolding upper_need
returns-4 c =
    let syntax = c in
    let of = syntax in
    rw (← of.class_before-before.ensures, ← c.is_lower.ensures)
    (simp (ne_eqb _ _ of.if-before-eq-OF.false, ne_eqb _ _ syntax.if-before-eq-SYNTAX.false, c.if-is_lower.true))

returns-5 : tie.Need-returns-else-is_lower
unfolding upper_need
returns-5 c =
    let syntax = c in
    let of = syntax in
    rw (← of.class_before-before.ensures, ← c.is_lower.ensures)
    (simp (ne_eqb _ _ of.if-before-eq-OF.false, ne_eqb _ _ syntax.if-before-eq-SYNTAX.false, c.if-is_lower.false))

pub upper_need_spec : {M : Type 1} → statement M
upper_need_spec =
    tie.close
    (tie.spec
    class-before-requires
    class-before-requires-2
    is-lower-requires
    returns
    returns-2
    returns-3
    returns-4
    returns-5)
