-- `before_object_identifier` is right: it is the definition, test by test.
-- Assumes nothing.
use borrow.Author.Rules.{rules}
use borrow.Author.Tests.{eq-eqb, ne_eqb}
use Rattle.definition.specs.Landmark.{before_object_identifier}
use Rattle.definition.proofs.landmark.before_object_identifier.Statement.{statement}
use Rattle.definition.proofs.landmark.before_object_identifier.Tie as tie

add-class-at : tie.Need-overflow_add-i
add-class-at c = search rules

class-at-requires : tie.Need-class_at-requires
class-at-requires c κs = search rules

add-class-at-2 : tie.Need-overflow_add-i-then-class_at-eq-OBJECT
add-class-at-2 c = search rules

class-at-requires-2 : tie.Need-class_at-requires-then-class_at-eq-OBJECT
class-at-requires-2 c κs = search rules

add-class-at-3 : tie.Need-overflow_add-i-then-class_at-eq-IDENTIFIER
add-class-at-3 c = search rules

class-at-requires-3 : tie.Need-class_at-requires-then-class_at-eq-IDENTIFIER
class-at-requires-3 c κs = search rules

returns : tie.Need-returns-then-class_at-eq-IDENTIFIER
unfolding before_object_identifier
returns c =
    let second = c.before in
    let first = second.before.before in
    rw (← first.class_at.ensures, ← second.class_at-then-class_at-eq-OBJECT.ensures, ← c.class_at-then-class_at-eq-IDENTIFIER.ensures)
    (simp (eq-eqb _ _ first.if-class_at-eq-OBJECT.true, eq-eqb _ _ second.if-class_at-eq-IDENTIFIER.true))

returns-2 : tie.Need-returns-else-class_at-eq-IDENTIFIER
unfolding before_object_identifier
returns-2 c =
    let first = c.before.before in
    rw (← first.class_at.ensures, ← c.class_at-then-class_at-eq-OBJECT.ensures)
    (simp (eq-eqb _ _ first.if-class_at-eq-OBJECT.true, ne_eqb _ _ c.if-class_at-eq-IDENTIFIER.false))

returns-3 : tie.Need-returns-else-class_at-eq-OBJECT
unfolding before_object_identifier
returns-3 c = rw (← c.class_at.ensures) (simp (ne_eqb _ _ c.if-class_at-eq-OBJECT.false))

pub before_object_identifier_spec : {M : Type 1} → statement M
before_object_identifier_spec =
    tie.close
    (tie.spec
    add-class-at
    class-at-requires
    add-class-at-2
    class-at-requires-2
    add-class-at-3
    class-at-requires-3
    returns
    returns-2
    returns-3)
