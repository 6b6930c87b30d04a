-- `mark_listed` is right by the law of the walk that marks the columns of a row.
-- Assumes nothing.
use Rattle.definition.specs.declared.Span.{Span}
use lib.Dec.{eqb}
use Prim.Native.Nat.{ℕ}
use Rattle.sequence_list.specs.Held.{row_type}
use borrow.Author.Rules.{rules}
use mathlib.Core.Path.{ap}
use Prim.Native.Nat.{◌-◌}
use native.Mathlib.Omega.{arith}
use Rattle.module_table.specs.Definition.{definitions_in}
use Rattle.sequence_list.proofs.Marking.{named_few}
use Rattle.sequence_list.proofs.Listing.{Listing, listing_start, listing_next, listing_end}
use Rattle.sequence_list.proofs.listed.mark_listed.Statement.{statement}
use Rattle.sequence_list.proofs.listed.mark_listed.Tie as tie

abbrev invariant-loop : tie.invariant-loop-i
invariant-loop values definitions number listed₀ to i₀ listed i = Listing (definitions_in definitions) values number i₀ to listed₀ listed i

abbrev decreases-loop : tie.decreases-loop-i
decreases-loop values definitions number listed₀ to i₀ listed i = to - i

columns-of-requires : tie.Need-columns_of-list-requires invariant-loop decreases-loop
columns-of-requires c κs = search rules

loop-holds : tie.Need-loop-i-init invariant-loop decreases-loop
loop-holds c = listing_start _ _ _ _ _ _ c.requires

named-at-requires : tie.Need-named_at-named-requires invariant-loop decreases-loop
named-at-requires c κs = search rules

row-type-requires : tie.Need-row_type-requires invariant-loop decreases-loop
row-type-requires c κs = search rules

mark-if-requires : tie.Need-mark_if-requires invariant-loop decreases-loop
mark-if-requires c κs =
    let n = c in
    let t = n in
    let l = t in
    let s = l in
    (l.loop-i.invariant.long, omega (arith, n.named_at-named.ensures, named_few (definitions_in s.args.definitions.now) s.args.values.now l.loop-i.i))

add-i : tie.Need-overflow_add-i invariant-loop decreases-loop
add-i c = search rules

loop-less : tie.Need-loop-i-smaller invariant-loop decreases-loop
loop-less c = search rules

loop-again : tie.Need-loop-i-preserved invariant-loop decreases-loop
loop-again c =
    let r = c in
    let n = r in
    let t = n in
    let l = t in
    let s = l in
    listing_next _ _ _ _ _ _ _ _ l.loop-i.invariant t.loop-i-test.true _ n.named_at-named.ensures _ (ap (λ (x : ℕ). eqb x s.args.number) r.row_type.ensures) _ c.mark_if.ensures

returns : tie.Need-returns invariant-loop decreases-loop
returns c =
    let l = c in
    listing_end _ _ _ _ _ _ _ _ l.loop-i.invariant c.loop-i-test.false (ap (λ (a : Span). a.from) l.columns_of-list.ensures) (ap (λ (a : Span). a.to) l.columns_of-list.ensures)

pub mark_listed_spec : {M : Type 1} → statement M
mark_listed_spec =
    tie.close
    (tie.spec
    invariant-loop
    decreases-loop
    columns-of-requires
    loop-holds
    named-at-requires
    row-type-requires
    mark-if-requires
    add-i
    loop-less
    loop-again
    returns)
