-- `begins` is right: a *lower* is no *Upper*, and each answer is what the tests on the token and those after it say.
-- Assumes nothing.
use mathlib.Core.Path.{◌≡◌, ap, sym, ◌∙◌}
use mathlib.Core.Bool.{true, false, or-false}
use Prim.Native.Nat.{ℕ}
use borrow.Author.Rules.{rules}
use borrow.Author.Tests.{eq-eqb, ne_eqb}
use lib.Dec.{eqb}
use Rattle.index.proofs.Search.{true_false}
use Rattle.terminal.specs.Terminal.{Upper}
use Rattle.definition.specs.Landmark.{is_lower, begins}
use Rattle.definition.proofs.landmark.begins.Statement.{statement}
use Rattle.definition.proofs.landmark.begins.Tie as tie

-- a *lower* is no *Upper*
no_upper : (class : ℕ) → is_lower class ≡ true → eqb class Upper ≡ false
no_upper class h = ne_eqb class Upper (λ e. true_false h (ap is_lower e))

class-at-requires : tie.Need-class_at-class-requires
class-at-requires c κs = search rules

add-class-at : tie.Need-overflow_add-i
add-class-at c = search rules

class-at-requires-2 : tie.Need-class_at-next-requires
class-at-requires-2 c κs = search rules

is-lower-requires : tie.Need-is_lower-requires
is-lower-requires c κs = search rules

is-defining-requires : tie.Need-is_defining-requires
is-defining-requires c κs = search rules

before-object-identifier-requires : tie.Need-before_object_identifier-requires
before-object-identifier-requires c κs = search rules

returns : tie.Need-returns-then-is_defining
unfolding begins
returns c =
    let lower = c.before.before in
    let next = lower.before.before in
    rw (
      ← next.class_at-class.ensures,
      ← next.class_at-next.ensures,
      ← lower.is_lower.ensures,
      ← c.is_defining.ensures,
    )
    (simp (lower.if-is_lower.true, c.if-is_defining.true))

returns-2 : tie.Need-returns-else-is_defining
unfolding begins
returns-2 c =
    let other = c.before in
    let lower = other.before.before in
    let next = lower.before.before in
    let class = next.class_at-class.result in
    let upper = no_upper class (sym lower.is_lower.ensures ∙ lower.if-is_lower.true) in
    rw (
      ← next.class_at-class.ensures,
      ← next.class_at-next.ensures,
      ← lower.is_lower.ensures,
      ← other.is_defining.ensures,
      ← c.before_object_identifier.ensures,
    )
    (simp (lower.if-is_lower.true, other.if-is_defining.false, upper, or-false))

returns-3 : tie.Need-returns-then-class-eq-UPPER
unfolding begins
returns-3 c =
    let other = c.before in
    let next = other.before.before in
    rw (← next.class_at-class.ensures, ← next.class_at-next.ensures, ← other.is_lower.ensures)
    (simp (other.if-is_lower.false, eq-eqb _ _ c.if-class-eq-UPPER.true))

returns-4 : tie.Need-returns-else-class-eq-UPPER
unfolding begins
returns-4 c =
    let other = c.before in
    let next = other.before.before in
    rw (← next.class_at-class.ensures, ← next.class_at-next.ensures, ← other.is_lower.ensures)
    (simp (other.if-is_lower.false, ne_eqb _ _ c.if-class-eq-UPPER.false))

pub begins_spec : {M : Type 1} → statement M
begins_spec =
    tie.close
    (tie.spec
    class-at-requires
    add-class-at
    class-at-requires-2
    is-lower-requires
    is-defining-requires
    before-object-identifier-requires
    returns
    returns-2
    returns-3
    returns-4)
