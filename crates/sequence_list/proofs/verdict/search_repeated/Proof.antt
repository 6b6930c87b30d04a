-- `search_repeated` is right by the law of the walk that marks what is named.
-- Assumes nothing.
use Rattle.index.specs.First.{first}
use Rattle.definition.specs.declared.Span.{Span}
use borrow.Author.Rules.{rules}
use mathlib.Core.Path.{sym, ap, ◌∙◌}
use Prim.Native.Nat.{◌-◌}
use native.Mathlib.Omega.{arith}
use Rattle.module_table.specs.Definition.{definitions_in}
use Rattle.sequence_list.proofs.Marking.{Marking, marking_start, marking_asked, marking_below, marking_long, marking_next, named_few}
use Rattle.sequence_list.proofs.Asking.{first_asked, none_asked}
use Rattle.sequence_list.specs.Named.{is_repeated}
use Rattle.sequence_list.proofs.verdict.search_repeated.Statement.{statement}
use Rattle.sequence_list.proofs.verdict.search_repeated.Tie as tie

abbrev invariant-loop : tie.invariant-loop-i
invariant-loop values definitions number marks₀ stamp to i₀ marks i = Marking (definitions_in definitions) values i₀ to stamp marks i

abbrev decreases-loop : tie.decreases-loop-i
decreases-loop values definitions number marks₀ stamp to i₀ marks i = to - i

columns-of-requires : tie.Need-columns_of-list-requires invariant-loop decreases-loop
columns-of-requires c κs = search rules

add-stamp : tie.Need-overflow_add-stamp invariant-loop decreases-loop
add-stamp c = search rules

loop-holds : tie.Need-loop-i-init invariant-loop decreases-loop
loop-holds c = marking_start _ _ _ _ _ _ c.requires.0

named-at-requires : tie.Need-named_at-requires invariant-loop decreases-loop
named-at-requires c κs = search rules

mark-requires : tie.Need-mark-requires invariant-loop decreases-loop
mark-requires c κs =
    let t = c in
    let l = t in
    let s = l in
    (l.loop-i.invariant.long, omega (arith, c.named_at.ensures, named_few (definitions_in s.args.definitions.now) s.args.values.now l.loop-i.i))

returns : tie.Need-returns-then-mark invariant-loop decreases-loop
returns c =
    let m = c in
    let n = m in
    let t = n in
    let l = t in
    let s = l in
    let ds = definitions_in s.args.definitions.now in
    record {
      is =
          first_asked _ _ _ _ l.loop-i.invariant.passed t.loop-i-test.true (sym (marking_asked _ _ _ _ _ _ _ l.loop-i.invariant _ n.named_at.ensures _ _ m.mark.ensures) ∙ c.if-mark.true)
          ∙ ap (λ (a : Span). first (is_repeated ds s.args.values.now a.from) a.from a.to) l.columns_of-list.ensures;
      stamped = record {
        long = marking_long _ _ _ _ _ _ _ l.loop-i.invariant _ n.named_at.ensures _ _ m.mark.ensures;
        below = marking_below _ _ _ _ _ _ _ l.loop-i.invariant _ n.named_at.ensures _ _ m.mark.ensures;
      };
    }

add-i : tie.Need-overflow_add-i invariant-loop decreases-loop
add-i c = search rules

loop-less : tie.Need-loop-i-smaller invariant-loop decreases-loop
loop-less c = search rules

loop-again : tie.Need-loop-i-preserved invariant-loop decreases-loop
loop-again c =
    let m = c in
    let n = m in
    let t = n in
    let l = t in
    marking_next _ _ _ _ _ _ _ l.loop-i.invariant _ n.named_at.ensures _ _ m.mark.ensures t.loop-i-test.true c.if-mark.false

returns-2 : tie.Need-returns invariant-loop decreases-loop
returns-2 c =
    let l = c in
    let s = l in
    let ds = definitions_in s.args.definitions.now in
    record {
      is =
          none_asked _ _ _ _ l.loop-i.invariant.passed c.loop-i-test.false
          ∙ ap (λ (a : Span). first (is_repeated ds s.args.values.now a.from) a.from a.to) l.columns_of-list.ensures;
      stamped = record { long = l.loop-i.invariant.long; below = l.loop-i.invariant.below };
    }

pub search_repeated_spec : {M : Type 1} → statement M
search_repeated_spec =
    tie.close
    (tie.spec
    invariant-loop
    decreases-loop
    columns-of-requires
    add-stamp
    loop-holds
    named-at-requires
    mark-requires
    returns
    add-i
    loop-less
    loop-again
    returns-2)
