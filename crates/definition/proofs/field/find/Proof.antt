-- `find` is right: what it passed has another class, and the first token of the class, or the end, stops it.
-- Assumes nothing.
use mathlib.Core.Path.{refl, sym, ◌∙◌}
use mathlib.Core.List.{List}
use mathlib.Core.Bool.{Bool}
use Prim.Native.Nat.{ℕ, ◌-◌}
use borrow.Author.Rules.{rules}
use borrow.Author.Tests.{eq-eqb, ne_eqb}
use lib.Dec.{eqb}
use lib.ListN.{take}
use Rattle.definition.specs.Landmark.{class_at}
use Rattle.definition.proofs.Found.{Passed, passed_miss, passed_hit, passed_end}
use Rattle.definition.proofs.field.find.Statement.{statement}
use Rattle.definition.proofs.field.find.Tie as tie

-- token i is of the class
abbrev is_of : List ℕ → ℕ → ℕ → ℕ → Bool
is_of classes n class i = eqb (class_at (take n classes) i) class

abbrev invariant-loop : tie.invariant-loop-i
invariant-loop classes n class a b i₀ i = Passed (is_of classes n class) a b i

abbrev decreases-loop : tie.decreases-loop-i
decreases-loop classes n class a b i₀ i = b - i

loop-holds : tie.Need-loop-i-init invariant-loop decreases-loop
loop-holds c = refl

class-at-requires : tie.Need-class_at-requires invariant-loop decreases-loop
class-at-requires c κs = search rules

returns : tie.Need-returns-then-class_at-class invariant-loop decreases-loop
returns c =
    let test = c.before.before in
    passed_hit _ _ _ _ test.loop-i.invariant test.loop-i-test.true
    (eq-eqb _ _ (sym c.class_at.ensures ∙ c.if-class_at-class.true))

add-i : tie.Need-overflow_add-i invariant-loop decreases-loop
add-i c = search rules

loop-less : tie.Need-loop-i-smaller invariant-loop decreases-loop
loop-less c = search rules

loop-again : tie.Need-loop-i-preserved invariant-loop decreases-loop
loop-again c =
    let test = c.before.before in
    passed_miss _ _ _ _ test.loop-i.invariant test.loop-i-test.true
    (ne_eqb _ _ (λ e. c.if-class_at-class.false (c.class_at.ensures ∙ e)))

returns-2 : tie.Need-returns invariant-loop decreases-loop
returns-2 c = passed_end _ _ _ _ c.loop-i.invariant c.loop-i-test.false

pub find_spec : {M : Type 1} → statement M
find_spec =
    tie.close
    (tie.spec
    invariant-loop
    decreases-loop
    loop-holds
    class-at-requires
    returns
    add-i
    loop-less
    loop-again
    returns-2)
