-- `next_enclosing` is right: it is the definition's step, test by test.
-- Assumes nothing.
use native.Mathlib.Numerals.{add-one}
use borrow.Author.Rules.{rules}
use Rattle.definition.proofs.Cases.{same, other}
use Rattle.name_kind.specs.Need.{enclosing}
use Rattle.name_kind.proofs.need.next_enclosing.Statement.{statement}
use Rattle.name_kind.proofs.need.next_enclosing.Tie as tie

class-at-requires : tie.Need-class_at-class-requires
class-at-requires c κs = search rules

class-before-requires : tie.Need-class_before-requires
class-before-requires c κs = search rules

cast-result : tie.Need-overflow_cast-result
cast-result c = search rules

returns : tie.Need-returns-then-class-eq-LEFT_BRACE
unfolding enclosing
returns c =
    let left = c in
    rw (add-one, ← left.class_at-class.ensures, ← c.class_before.ensures) (same _ _ left.if-class-eq-LEFT_BRACE.true)

returns-2 : tie.Need-returns-then-class-eq-RIGHT_BRACE
unfolding enclosing
returns-2 c =
    let left = c in
    rw (add-one, ← left.class_at-class.ensures) (other _ left.if-class-eq-LEFT_BRACE.false (same _ _ c.if-class-eq-RIGHT_BRACE.true))

returns-3 : tie.Need-returns-else-class-eq-RIGHT_BRACE
unfolding enclosing
returns-3 c =
    let left = c in
    let start = left in
    rw (add-one, ← left.class_at-class.ensures)
    (other _ left.if-class-eq-LEFT_BRACE.false (other _ c.if-class-eq-RIGHT_BRACE.false start.requires.1))

pub next_enclosing_spec : {M : Type 1} → statement M
next_enclosing_spec =
    tie.close
    (tie.spec
    class-at-requires
    class-before-requires
    cast-result
    returns
    returns-2
    returns-3)
