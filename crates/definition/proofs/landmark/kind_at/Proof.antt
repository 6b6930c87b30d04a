-- `kind_at` is right: it is the definition, test by test.
-- Assumes nothing.
use mathlib.Core.Path.{refl}
use borrow.Author.Rules.{rules}
use Rattle.definition.specs.Landmark.{kind_at}
use Rattle.definition.proofs.Cases.{same, other}
use Rattle.definition.proofs.landmark.kind_at.Statement.{statement}
use Rattle.definition.proofs.landmark.kind_at.Tie as tie

add-class-at : tie.Need-overflow_add-d
add-class-at c = search rules

class-at-requires : tie.Need-class_at-word-requires
class-at-requires c κs = search rules

add-class-at-2 : tie.Need-overflow_add-d-else-word-eq-NOTIFICATION_TYPE
add-class-at-2 c = search rules

class-at-requires-2 : tie.Need-class_at-requires
class-at-requires-2 c κs = search rules

returns : tie.Need-returns-then-word-eq-MODULE_IDENTITY
unfolding kind_at
returns c =
    rw (← c.class_at-word.ensures)
    (same _ _ c.if-word-eq-MODULE_IDENTITY.true)

returns-2 : tie.Need-returns-then-word-eq-OBJECT
unfolding kind_at
returns-2 c =
    let first = c.before in
    rw (← first.class_at-word.ensures)
    (other _ first.if-word-eq-MODULE_IDENTITY.false (same _ _ c.if-word-eq-OBJECT.true))

returns-3 : tie.Need-returns-then-word-eq-OBJECT_IDENTITY
unfolding kind_at
returns-3 c =
    let second = c.before in
    let first = second.before in
    rw (← first.class_at-word.ensures)
    (other _ first.if-word-eq-MODULE_IDENTITY.false (other _ second.if-word-eq-OBJECT.false (same _ _ c.if-word-eq-OBJECT_IDENTITY.true)))

returns-4 : tie.Need-returns-then-word-eq-OBJECT_TYPE
unfolding kind_at
returns-4 c =
    let third = c.before in
    let second = third.before in
    let first = second.before in
    rw (← first.class_at-word.ensures)
    (other _ first.if-word-eq-MODULE_IDENTITY.false (other _ second.if-word-eq-OBJECT.false (other _ third.if-word-eq-OBJECT_IDENTITY.false (same _ _ c.if-word-eq-OBJECT_TYPE.true))))

returns-5 : tie.Need-returns-then-word-eq-NOTIFICATION_TYPE
unfolding kind_at
returns-5 c =
    let fourth = c.before in
    let third = fourth.before in
    let second = third.before in
    let first = second.before in
    rw (← first.class_at-word.ensures)
    (other _ first.if-word-eq-MODULE_IDENTITY.false
    (other _ second.if-word-eq-OBJECT.false
    (other _ third.if-word-eq-OBJECT_IDENTITY.false
    (other _ fourth.if-word-eq-OBJECT_TYPE.false
    (same _ _ c.if-word-eq-NOTIFICATION_TYPE.true)))))

returns-6 : tie.Need-returns-then-class_at-eq-TEXTUAL_CONVENTION
unfolding kind_at
returns-6 c =
    let fifth = c.before.before in
    let fourth = fifth.before in
    let third = fourth.before in
    let second = third.before in
    let first = second.before in
    rw (← first.class_at-word.ensures, ← c.class_at.ensures)
    (other _ first.if-word-eq-MODULE_IDENTITY.false
    (other _ second.if-word-eq-OBJECT.false
    (other _ third.if-word-eq-OBJECT_IDENTITY.false
    (other _ fourth.if-word-eq-OBJECT_TYPE.false
    (other _ fifth.if-word-eq-NOTIFICATION_TYPE.false
    (same _ _ c.if-class_at-eq-TEXTUAL_CONVENTION.true))))))

returns-7 : tie.Need-returns-else-class_at-eq-TEXTUAL_CONVENTION
unfolding kind_at
returns-7 c =
    let fifth = c.before.before in
    let fourth = fifth.before in
    let third = fourth.before in
    let second = third.before in
    let first = second.before in
    rw (← first.class_at-word.ensures, ← c.class_at.ensures)
    (other _ first.if-word-eq-MODULE_IDENTITY.false
    (other _ second.if-word-eq-OBJECT.false
    (other _ third.if-word-eq-OBJECT_IDENTITY.false
    (other _ fourth.if-word-eq-OBJECT_TYPE.false
    (other _ fifth.if-word-eq-NOTIFICATION_TYPE.false
    (other _ c.if-class_at-eq-TEXTUAL_CONVENTION.false refl))))))

pub kind_at_spec : {M : Type 1} → statement M
kind_at_spec =
    tie.close
    (tie.spec
    add-class-at
    class-at-requires
    add-class-at-2
    class-at-requires-2
    returns
    returns-2
    returns-3
    returns-4
    returns-5
    returns-6
    returns-7)
