-- `first_same_label` is right by the law of searching loops.
-- Assumes nothing.
use Rattle.enumeration.specs.Item.{spelling_in, has_label}
use Rattle.index.proofs.Search.{first_hit, first_miss, first_none}
use Rattle.index.specs.First.{first}
use borrow.Author.Rules.{rules}
use native.Mathlib.Numerals.{add-one}
use Prim.Native.Nat.{◌-◌}
use mathlib.Core.Path.{◌≡◌, refl, sym, ◌∙◌}
use Rattle.enumeration.proofs.item.first_same_label.Statement.{statement}
use Rattle.enumeration.proofs.item.first_same_label.Tie as tie

abbrev invariant-loop : tie.invariant-loop-j
invariant-loop text starts ends classes to j₀ j = first (has_label (spelling_in text starts ends) classes to) j to ≡ first (has_label (spelling_in text starts ends) classes to) j₀ to

abbrev decreases-loop : tie.decreases-loop-j
decreases-loop text starts ends classes to j₀ j = to - j

loop-holds : tie.Need-loop-j-init invariant-loop decreases-loop
loop-holds c = refl

has-label-requires : tie.Need-has_label-requires invariant-loop decreases-loop
has-label-requires c κs = search rules

returns : tie.Need-returns-then-has_label invariant-loop decreases-loop
returns c =
    let l = c in
    sym (first_hit _ _ _ c.loop-j-test.true (sym c.has_label.ensures ∙ c.if-has_label.true)) ∙ l.loop-j.invariant

add-j : tie.Need-overflow_add-j invariant-loop decreases-loop
add-j c = search rules

loop-less : tie.Need-loop-j-smaller invariant-loop decreases-loop
loop-less c = search rules

loop-again : tie.Need-loop-j-preserved invariant-loop decreases-loop
loop-again c =
    let l = c in
    rw (add-one l.loop-j.j) (sym (first_miss _ _ _ c.loop-j-test.true (sym c.has_label.ensures ∙ c.if-has_label.false)) ∙ l.loop-j.invariant)

returns-2 : tie.Need-returns invariant-loop decreases-loop
returns-2 c = sym (first_none _ _ _ c.loop-j-test.false) ∙ c.loop-j.invariant

pub first_same_label_spec : {M : Type 1} → statement M
first_same_label_spec =
    tie.close
    (tie.spec
    invariant-loop
    decreases-loop
    loop-holds
    has-label-requires
    returns
    add-j
    loop-less
    loop-again
    returns-2)
