-- `syntax_at` is right: it is the definition, test by test.
-- Assumes nothing.
use mathlib.Core.Path.{refl}
use borrow.Author.Rules.{rules}
use Rattle.definition.specs.Fields.{syntax_at}
use Rattle.definition.proofs.Cases.{same, other}
use Rattle.definition.proofs.syntax_clause.syntax_at.Statement.{statement}
use Rattle.definition.proofs.syntax_clause.syntax_at.Tie as tie

class-at-requires : tie.Need-class_at-word-requires
class-at-requires c κs = search rules

add-restriction-at : tie.Need-overflow_add-s
add-restriction-at c = search rules

restriction-at-requires : tie.Need-restriction_at-requires
restriction-at-requires c κs = search rules

add-restriction-at-2 : tie.Need-overflow_add-s-then-word-eq-UPPER
add-restriction-at-2 c = search rules

restriction-at-requires-2 : tie.Need-restriction_at-requires-then-word-eq-UPPER
restriction-at-requires-2 c κs = search rules

add-restriction-at-3 : tie.Need-overflow_add-s-then-word-eq-OCTET
add-restriction-at-3 c = search rules

restriction-at-requires-3 : tie.Need-restriction_at-requires-then-word-eq-OCTET
restriction-at-requires-3 c κs = search rules

add-restriction-at-4 : tie.Need-overflow_add-s-then-word-eq-BITS
add-restriction-at-4 c = search rules

restriction-at-requires-4 : tie.Need-restriction_at-requires-then-word-eq-BITS
restriction-at-requires-4 c κs = search rules

add-t25 : tie.Need-overflow_add-result
add-t25 c = search rules

returns : tie.Need-returns-then-word-eq-INTEGER
unfolding syntax_at
returns c =
    let first = c.before in
    rw (← first.class_at-word.ensures, ← c.restriction_at.ensures)
    (same _ _ first.if-word-eq-INTEGER.true)

returns-2 : tie.Need-returns-then-word-eq-UPPER
unfolding syntax_at
returns-2 c =
    let second = c.before in
    let first = second.before in
    rw (← first.class_at-word.ensures, ← c.restriction_at-then-word-eq-UPPER.ensures)
    (other _ first.if-word-eq-INTEGER.false (same _ _ second.if-word-eq-UPPER.true))

returns-3 : tie.Need-returns-then-word-eq-OCTET
unfolding syntax_at
returns-3 c =
    let third = c.before in
    let second = third.before in
    let first = second.before in
    rw (← first.class_at-word.ensures, ← c.restriction_at-then-word-eq-OCTET.ensures)
    (other _ first.if-word-eq-INTEGER.false (other _ second.if-word-eq-UPPER.false (same _ _ third.if-word-eq-OCTET.true)))

returns-4 : tie.Need-returns-then-word-eq-OBJECT
unfolding syntax_at
returns-4 c =
    let third = c.before in
    let second = third.before in
    let first = second.before in
    rw (← first.class_at-word.ensures)
    (other _ first.if-word-eq-INTEGER.false (other _ second.if-word-eq-UPPER.false (other _ third.if-word-eq-OCTET.false (same _ _ c.if-word-eq-OBJECT.true))))

returns-5 : tie.Need-returns-then-word-eq-BITS
unfolding syntax_at
returns-5 c =
    let fifth = c.before in
    let fourth = fifth.before in
    let third = fourth.before in
    let second = third.before in
    let first = second.before in
    rw (← first.class_at-word.ensures, ← c.restriction_at-then-word-eq-BITS.ensures)
    (other _ first.if-word-eq-INTEGER.false
    (other _ second.if-word-eq-UPPER.false
    (other _ third.if-word-eq-OCTET.false
    (other _ fourth.if-word-eq-OBJECT.false
    (same _ _ fifth.if-word-eq-BITS.true)))))

returns-6 : tie.Need-returns-else-word-eq-BITS
unfolding syntax_at
returns-6 c =
    let fourth = c.before in
    let third = fourth.before in
    let second = third.before in
    let first = second.before in
    rw (← first.class_at-word.ensures)
    (other _ first.if-word-eq-INTEGER.false
    (other _ second.if-word-eq-UPPER.false
    (other _ third.if-word-eq-OCTET.false
    (other _ fourth.if-word-eq-OBJECT.false
    (other _ c.if-word-eq-BITS.false refl)))))

pub syntax_at_spec : {M : Type 1} → statement M
syntax_at_spec =
    tie.close
    (tie.spec
    class-at-requires
    add-restriction-at
    restriction-at-requires
    add-restriction-at-2
    restriction-at-requires-2
    add-restriction-at-3
    restriction-at-requires-3
    add-restriction-at-4
    restriction-at-requires-4
    add-t25
    returns
    returns-2
    returns-3
    returns-4
    returns-5
    returns-6)
