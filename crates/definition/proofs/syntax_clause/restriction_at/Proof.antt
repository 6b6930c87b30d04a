-- `restriction_at` is right: it goes by the first two tokens as the definition does, and each span ends at the first bracket
-- that closes it.
-- Assumes nothing.
use borrow.Author.Rules.{rules}
use borrow.Author.Tests.{eq-eqb, ne_eqb}
use Rattle.definition.specs.Fields.{restriction_at}
use Rattle.definition.proofs.syntax_clause.restriction_at.Statement.{statement}
use Rattle.definition.proofs.syntax_clause.restriction_at.Tie as tie

class-at-requires : tie.Need-class_at-class-requires
class-at-requires c κs = search rules

add-from : tie.Need-overflow_add-from
add-from c = search rules

find-requires : tie.Need-find-to-requires
find-requires c κs = search rules

returns : tie.Need-returns-then-class-eq-LEFT_BRACE
unfolding restriction_at
returns c =
    let brace = c.before in
    rw (← brace.class_at-class.ensures)
    (simp (eq-eqb _ _ brace.if-class-eq-LEFT_BRACE.true) (rw c.find-to.ensures))

returns-2 : tie.Need-returns-then-class-ne-LEFT_PAREN
unfolding restriction_at
returns-2 c =
    let other = c.before in
    rw (← other.class_at-class.ensures) (simp (ne_eqb _ _ other.if-class-eq-LEFT_BRACE.false, ne_eqb _ _ c.if-class-ne-LEFT_PAREN.true))

add-class-at : tie.Need-overflow_add-r
add-class-at c = search rules

class-at-requires-2 : tie.Need-class_at-requires
class-at-requires-2 c κs = search rules

add-from-2 : tie.Need-overflow_add-from-then-class_at-eq-SIZE
add-from-2 c = search rules

find-requires-2 : tie.Need-find-to-requires-then-class_at-eq-SIZE
find-requires-2 c κs = search rules

add-from-3 : tie.Need-overflow_add-from-else-class_at-eq-SIZE
add-from-3 c = search rules

find-requires-3 : tie.Need-find-to-requires-else-class_at-eq-SIZE
find-requires-3 c κs = search rules

returns-3 : tie.Need-returns-then-class_at-eq-SIZE
unfolding restriction_at
returns-3 c =
    let size = c.before in
    let paren = size.before.before in
    let other = paren.before in
    rw (← other.class_at-class.ensures, ← size.class_at.ensures)
    (simp (ne_eqb _ _ other.if-class-eq-LEFT_BRACE.false, eq-eqb _ _ paren.if-class-ne-LEFT_PAREN.false, eq-eqb _ _ size.if-class_at-eq-SIZE.true)
    (rw c.find-to-then-class_at-eq-SIZE.ensures))

returns-4 : tie.Need-returns-else-class_at-eq-SIZE
unfolding restriction_at
returns-4 c =
    let size = c.before in
    let paren = size.before.before in
    let other = paren.before in
    rw (← other.class_at-class.ensures, ← size.class_at.ensures)
    (simp (ne_eqb _ _ other.if-class-eq-LEFT_BRACE.false, eq-eqb _ _ paren.if-class-ne-LEFT_PAREN.false, ne_eqb _ _ size.if-class_at-eq-SIZE.false)
    (rw c.find-to-else-class_at-eq-SIZE.ensures))

pub restriction_at_spec : {M : Type 1} → statement M
restriction_at_spec =
    tie.close
    (tie.spec
    class-at-requires
    add-from
    find-requires
    returns
    returns-2
    add-class-at
    class-at-requires-2
    add-from-2
    find-requires-2
    add-from-3
    find-requires-3
    returns-3
    returns-4)
