-- `first_stranger` is right by the law of the loop that asks.
-- Assumes nothing.
use Rattle.index.specs.First.{first}
use Rattle.definition.specs.declared.Span.{Span}
use borrow.Author.Rules.{rules}
use mathlib.Core.Path.{sym, ap, ◌∙◌}
use Prim.Native.Nat.{◌-◌}
use Rattle.module_table.specs.Definition.{definitions_in}
use Rattle.sequence_list.specs.Named.{is_stranger}
use Rattle.sequence_list.proofs.Asking.{Asking, asking_miss, first_asked, none_asked}
use Rattle.sequence_list.proofs.verdict.first_stranger.Statement.{statement}
use Rattle.sequence_list.proofs.verdict.first_stranger.Tie as tie

abbrev invariant-loop : tie.invariant-loop-i
invariant-loop values definitions number parent to i₀ i = Asking (is_stranger (definitions_in definitions) values parent) i₀ to i

abbrev decreases-loop : tie.decreases-loop-i
decreases-loop values definitions number parent to i₀ i = to - i

columns-of-requires : tie.Need-columns_of-list-requires invariant-loop decreases-loop
columns-of-requires c κs = search rules

loop-holds : tie.Need-loop-i-init invariant-loop decreases-loop
loop-holds c = search rules

is-stranger-requires : tie.Need-is_stranger-requires invariant-loop decreases-loop
is-stranger-requires c κs = search rules

returns : tie.Need-returns-then-is_stranger invariant-loop decreases-loop
returns c =
    let t = c in
    let l = t in
    let s = l in
    first_asked _ _ _ _ l.loop-i.invariant t.loop-i-test.true (sym c.is_stranger.ensures ∙ c.if-is_stranger.true)
    ∙ ap (λ (a : Span). first (is_stranger (definitions_in s.args.definitions.now) s.args.values.now s.args.parent) a.from a.to) l.columns_of-list.ensures

add-i : tie.Need-overflow_add-i invariant-loop decreases-loop
add-i c = search rules

loop-less : tie.Need-loop-i-smaller invariant-loop decreases-loop
loop-less c = search rules

loop-again : tie.Need-loop-i-preserved invariant-loop decreases-loop
loop-again c =
    let t = c in
    asking_miss _ _ _ _ t.loop-i.invariant t.loop-i-test.true (sym c.is_stranger.ensures ∙ c.if-is_stranger.false)

returns-2 : tie.Need-returns invariant-loop decreases-loop
returns-2 c =
    let l = c in
    let s = l in
    none_asked _ _ _ _ l.loop-i.invariant c.loop-i-test.false
    ∙ ap (λ (a : Span). first (is_stranger (definitions_in s.args.definitions.now) s.args.values.now s.args.parent) a.from a.to) l.columns_of-list.ensures

pub first_stranger_spec : {M : Type 1} → statement M
first_stranger_spec =
    tie.close
    (tie.spec
    invariant-loop
    decreases-loop
    columns-of-requires
    loop-holds
    is-stranger-requires
    returns
    add-i
    loop-less
    loop-again
    returns-2)
