-- `first_named` is right by the law of the loop that asks.
-- Assumes nothing.
use Rattle.index.specs.First.{first}
use Rattle.definition.specs.declared.Span.{Span}
use borrow.Author.Rules.{rules}
use mathlib.Core.Path.{sym, ap, ◌∙◌}
use mathlib.Core.Bool.{not}
use Prim.Native.Nat.{◌-◌}
use borrow.Author.Tests.{eq-eqb, ne_eqb}
use Rattle.module_table.specs.Definition.{definitions_in}
use Rattle.sequence_list.specs.Named.{names_object}
use Rattle.sequence_list.proofs.Asking.{Asking, asking_miss, first_asked, none_asked}
use Rattle.sequence_list.proofs.verdict.first_named.Statement.{statement}
use Rattle.sequence_list.proofs.verdict.first_named.Tie as tie

abbrev invariant-loop : tie.invariant-loop-i
invariant-loop values definitions number to i₀ i = Asking (names_object (definitions_in definitions) values) i₀ to i

abbrev decreases-loop : tie.decreases-loop-i
decreases-loop values definitions number to i₀ i = to - i

columns-of-requires : tie.Need-columns_of-list-requires invariant-loop decreases-loop
columns-of-requires c κs = search rules

loop-holds : tie.Need-loop-i-init invariant-loop decreases-loop
loop-holds c = search rules

named-at-requires : tie.Need-named_at-requires invariant-loop decreases-loop
named-at-requires c κs = search rules

returns : tie.Need-returns-then-named_at-ne0 invariant-loop decreases-loop
returns c =
    let t = c in
    let l = t in
    let s = l in
    first_asked _ _ _ _ l.loop-i.invariant t.loop-i-test.true (ap not (ne_eqb _ 0 (λ e. c.if-named_at-ne0.true (c.named_at.ensures ∙ e))))
    ∙ ap (λ (a : Span). first (names_object (definitions_in s.args.definitions.now) s.args.values.now) a.from a.to) l.columns_of-list.ensures

add-i : tie.Need-overflow_add-i invariant-loop decreases-loop
add-i c = search rules

loop-less : tie.Need-loop-i-smaller invariant-loop decreases-loop
loop-less c = search rules

loop-again : tie.Need-loop-i-preserved invariant-loop decreases-loop
loop-again c =
    let t = c in
    asking_miss _ _ _ _ t.loop-i.invariant t.loop-i-test.true (ap not (eq-eqb _ 0 (sym c.named_at.ensures ∙ c.if-named_at-ne0.false)))

returns-2 : tie.Need-returns invariant-loop decreases-loop
returns-2 c =
    let l = c in
    let s = l in
    none_asked _ _ _ _ l.loop-i.invariant c.loop-i-test.false
    ∙ ap (λ (a : Span). first (names_object (definitions_in s.args.definitions.now) s.args.values.now) a.from a.to) l.columns_of-list.ensures

pub first_named_spec : {M : Type 1} → statement M
first_named_spec =
    tie.close
    (tie.spec
    invariant-loop
    decreases-loop
    columns-of-requires
    loop-holds
    named-at-requires
    returns
    add-i
    loop-less
    loop-again
    returns-2)
