-- `find_syntax_end` is right: what it passed doesn't end a syntax, and the first token that does, or the end, stops it.
-- Assumes nothing.
use mathlib.Core.Path.{refl, sym, ◌∙◌}
use Prim.Native.Nat.{◌-◌}
use borrow.Author.Rules.{rules}
use lib.ListN.{take}
use Rattle.definition.specs.Fields.{ends_syntax}
use Rattle.definition.proofs.Found.{Passed, passed_miss, passed_hit, passed_end}
use Rattle.definition.proofs.field.find_syntax_end.Statement.{statement}
use Rattle.definition.proofs.field.find_syntax_end.Tie as tie

abbrev invariant-loop : tie.invariant-loop-i
invariant-loop classes n a b i₀ i = Passed (ends_syntax (take n classes)) a b i

abbrev decreases-loop : tie.decreases-loop-i
decreases-loop classes n a b i₀ i = b - i

loop-holds : tie.Need-loop-i-init invariant-loop decreases-loop
loop-holds c = refl

class-at-requires : tie.Need-class_at-requires invariant-loop decreases-loop
class-at-requires c κs = search rules

is-syntax-end-requires : tie.Need-is_syntax_end-requires invariant-loop decreases-loop
is-syntax-end-requires c κs = search rules

returns : tie.Need-returns-then-is_syntax_end invariant-loop decreases-loop
returns c =
    let test = c.before.before.before in
    passed_hit _ _ _ _ test.loop-i.invariant test.loop-i-test.true
    (rw (← c.class_at.ensures) (sym c.is_syntax_end.ensures ∙ c.if-is_syntax_end.true))

add-i : tie.Need-overflow_add-i invariant-loop decreases-loop
add-i c = search rules

loop-less : tie.Need-loop-i-smaller invariant-loop decreases-loop
loop-less c = search rules

loop-again : tie.Need-loop-i-preserved invariant-loop decreases-loop
loop-again c =
    let test = c.before.before.before in
    passed_miss _ _ _ _ test.loop-i.invariant test.loop-i-test.true
    (rw (← c.class_at.ensures) (sym c.is_syntax_end.ensures ∙ c.if-is_syntax_end.false))

returns-2 : tie.Need-returns invariant-loop decreases-loop
returns-2 c = passed_end _ _ _ _ c.loop-i.invariant c.loop-i-test.false

pub find_syntax_end_spec : {M : Type 1} → statement M
find_syntax_end_spec =
    tie.close
    (tie.spec
    invariant-loop
    decreases-loop
    loop-holds
    class-at-requires
    is-syntax-end-requires
    returns
    add-i
    loop-less
    loop-again
    returns-2)
