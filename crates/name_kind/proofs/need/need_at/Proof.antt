-- `need_at` is right: it is the definition, test by test, and the word given is the one before the braces.
-- Assumes nothing.
use borrow.Author.Rules.{rules}
use borrow.Author.Tests.{eq-eqb, ne_eqb}
use Rattle.name_kind.specs.Need.{need_at}
use Rattle.name_kind.proofs.need.need_at.Statement.{statement}
use Rattle.name_kind.proofs.need.need_at.Tie as tie

class-at-requires : tie.Need-class_at-class-requires
class-at-requires c κs = search rules

is-macro-requires : tie.Need-is_macro-requires
is-macro-requires c κs = search rules

upper-need-requires : tie.Need-upper_need-requires
upper-need-requires c κs = search rules

is-lower-requires : tie.Need-is_lower-requires
is-lower-requires c κs = search rules

lower-need-requires : tie.Need-lower_need-requires
lower-need-requires c κs = search rules

returns : tie.Need-returns-then-is_macro
unfolding need_at
returns c = rw (← c.class_at-class.ensures, ← c.is_macro.ensures) (simp c.if-is_macro.true)

returns-2 : tie.Need-returns-then-class-eq-UPPER
unfolding need_at
returns-2 c =
    let macro = c in
    rw (← macro.class_at-class.ensures, ← macro.is_macro.ensures, ← c.upper_need.ensures)
    (simp (macro.if-is_macro.false, eq-eqb _ _ c.if-class-eq-UPPER.true))

returns-3 : tie.Need-returns-then-is_lower
unfolding need_at
returns-3 c =
    let lower = c in
    let upper = lower in
    let macro = upper in
    let start = macro in
    rw (
      ← macro.class_at-class.ensures,
      ← macro.is_macro.ensures,
      ← lower.is_lower.ensures,
      ← start.requires.1,
      ← c.lower_need.ensures,
    )
    (simp (macro.if-is_macro.false, ne_eqb _ _ upper.if-class-eq-UPPER.false, lower.if-is_lower.true))

returns-4 : tie.Need-returns-else-is_lower
unfolding need_at
returns-4 c =
    let upper = c in
    let macro = upper in
    rw (
      ← macro.class_at-class.ensures,
      ← macro.is_macro.ensures,
      ← c.is_lower.ensures,
    )
    (simp (macro.if-is_macro.false, ne_eqb _ _ upper.if-class-eq-UPPER.false, c.if-is_lower.false))

pub need_at_spec : {M : Type 1} → statement M
need_at_spec =
    tie.close
    (tie.spec
    class-at-requires
    is-macro-requires
    upper-need-requires
    is-lower-requires
    lower-need-requires
    returns
    returns-2
    returns-3
    returns-4)
