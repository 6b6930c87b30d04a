-- `first_of` is right by the law of the loop that asks.
-- Assumes nothing.
use borrow.Author.Rules.{rules}
use mathlib.Core.Path.{sym, ap, ◌∙◌}
use Prim.Native.Nat.{◌-◌}
use Rattle.index.specs.First.{first}
use Rattle.module_table.specs.Definition.{definitions_in}
use Rattle.sequence_list.proofs.Asking.{Asking, asking_miss, first_asked, none_asked}
use Rattle.clause_table.specs.Clause.{is_of}
use Rattle.table_check.proofs.against.first_of.Statement.{statement}
use Rattle.table_check.proofs.against.first_of.Tie as tie

abbrev invariant-loop : tie.invariant-loop-r
invariant-loop definitions class number n r₀ r = Asking (is_of (definitions_in definitions) class number) r₀ n r

abbrev decreases-loop : tie.decreases-loop-r
decreases-loop definitions class number n r₀ r = n - r

count-requires : tie.Need-count-n-requires invariant-loop decreases-loop
count-requires c κs = search rules

loop-holds : tie.Need-loop-r-init invariant-loop decreases-loop
loop-holds c = search rules

is-of-requires : tie.Need-is_of-requires invariant-loop decreases-loop
is-of-requires c κs = search rules

returns : tie.Need-returns-then-is_of invariant-loop decreases-loop
returns c =
    let t = c in
    let l = t in
    let s = l in
    first_asked _ _ _ _ l.loop-r.invariant t.loop-r-test.true (sym c.is_of.ensures ∙ c.if-is_of.true)
    ∙ ap (first (is_of (definitions_in s.args.definitions.now) s.args.class s.args.number) s.args.from.0) l.count-n.ensures

add_r : tie.Need-overflow_add-r invariant-loop decreases-loop
add_r c = search rules

loop-less : tie.Need-loop-r-smaller invariant-loop decreases-loop
loop-less c = search rules

loop-again : tie.Need-loop-r-preserved invariant-loop decreases-loop
loop-again c =
    let t = c in
    asking_miss _ _ _ _ t.loop-r.invariant t.loop-r-test.true (sym c.is_of.ensures ∙ c.if-is_of.false)

returns-2 : tie.Need-returns invariant-loop decreases-loop
returns-2 c =
    let l = c in
    let s = l in
    none_asked _ _ _ _ l.loop-r.invariant c.loop-r-test.false
    ∙ ap (first (is_of (definitions_in s.args.definitions.now) s.args.class s.args.number) s.args.from.0) l.count-n.ensures

pub first_of_spec : {M : Type 1} → statement M
first_of_spec =
    tie.close
    (tie.spec
    invariant-loop
    decreases-loop
    count-requires
    loop-holds
    is-of-requires
    returns
    add_r
    loop-less
    loop-again
    returns-2)
