-- `first_clash` is right: the outer loop searches for the first clash, and the inner one walks the names of the row's SEQUENCE type, unless
-- they are known to be no read-create columns.
-- Assumes nothing.
use mathlib.Core.Path.{◌≡◌, refl, sym, ap, ◌∙◌}
use mathlib.Core.Bool.{false}
use mathlib.Core.Logic.{⊎_elim}
use Prim.Native.Nat.{◌-◌, ◌<◌}
use native.Mathlib.Omega.{arith}
use Rattle.index.specs.First.{first, any}
use Rattle.definition.specs.declared.Span.{Span}
use Rattle.module_table.specs.Definition.{definitions_in}
use Rattle.sequence_list.specs.Held.{places}
use Rattle.sequence_list.proofs.Asking.{Asking, asking_miss, asking_hit, asking_end, first_asked, none_asked}
use Rattle.access_check.specs.Access.{has_access, creates, clashes}
use Rattle.access_check.proofs.Clashing.{Clear, clear_start, clear_more, clash_by_type, written_few}
use Rattle.access_check.proofs.clash.first_clash.Statement.{statement}
use Rattle.access_check.proofs.clash.first_clash.Tie as tie

abbrev invariant-loop : tie.invariant-loop-i
invariant-loop values definitions n clear k number to i₀ i = Asking (has_access (definitions_in definitions) values 5) i₀ to i

abbrev decreases-loop : tie.decreases-loop-i
decreases-loop values definitions n clear k number to i₀ i = to - i

abbrev invariant-records : tie.invariant-records
invariant-records values definitions n clear₀ k₀ clear k = Asking (clashes (definitions_in definitions) values) 0 n k × Clear (definitions_in definitions) values clear

abbrev decreases-records : tie.decreases-records
decreases-records values definitions n clear₀ k₀ clear k = n - k

abbrev start : tie.In-records invariant-loop decreases-loop invariant-records decreases-records → tie.Start invariant-loop decreases-loop invariant-records decreases-records
start t = t.before.before.before.before.before

number_few : (h : tie.After-written_type-number invariant-loop decreases-loop invariant-records decreases-records) → h.written_type-number.result < places
number_few h = omega (arith, h.written_type-number.ensures, written_few (definitions_in (start h.before).args.definitions.now) h.records.k)

-- whether the type names a read-create column is whether definition k clashes
clash_is : (h : tie.After-written_type-number invariant-loop decreases-loop invariant-records decreases-records) → (let t = h in let s = start t.before in
    creates (definitions_in s.args.definitions.now) s.args.values.now h.written_type-number.result ≡ clashes (definitions_in s.args.definitions.now) s.args.values.now t.records.k)
clash_is h =
    let s = start h.before in
    let ds = definitions_in s.args.definitions.now in
    ap (creates ds s.args.values.now) h.written_type-number.ensures ∙ clash_by_type ds s.args.values.now h.records.k

-- the list that is walked is the type's
list_is : (h : tie.After-columns_of-list invariant-loop decreases-loop invariant-records decreases-records) → (let w = h in let s = start w.before.before.before in let ds = definitions_in s.args.definitions.now in
    any (has_access ds s.args.values.now 5) h.columns_of-list.result.from h.columns_of-list.result.to ≡ creates ds s.args.values.now w.written_type-number.result)
unfolding creates
list_is h =
    let s = start h.before.before.before in
    ap (λ (a : Span). any (has_access (definitions_in s.args.definitions.now) s.args.values.now 5) a.from a.to) h.columns_of-list.ensures

count-requires : tie.Need-count-n-requires invariant-loop decreases-loop invariant-records decreases-records
count-requires c κs = tt

records-holds : tie.Need-records-init invariant-loop decreases-loop invariant-records decreases-records
records-holds c = (refl, clear_start _ _)

written-type-requires : tie.Need-written_type-number-requires invariant-loop decreases-loop invariant-records decreases-records
written-type-requires c κs = tt

array-read-if1 : tie.Need-bounds-clear-number invariant-loop decreases-loop invariant-records decreases-records
array-read-if1 c = number_few c

columns-of-requires : tie.Need-columns_of-list-requires invariant-loop decreases-loop invariant-records decreases-records
columns-of-requires c κs = tt

loop-holds : tie.Need-loop-i-init invariant-loop decreases-loop invariant-records decreases-records
loop-holds c = refl

has-access-requires : tie.Need-has_access-requires invariant-loop decreases-loop invariant-records decreases-records
has-access-requires c κs = tt

add-i : tie.Need-overflow_add-i invariant-loop decreases-loop invariant-records decreases-records
add-i c = omega (arith, c.loop-i-test.true)

loop-less : tie.Need-loop-i-smaller invariant-loop decreases-loop invariant-records decreases-records
loop-less c = omega (arith, c.loop-i-test.true)

loop-again : tie.Need-loop-i-preserved invariant-loop decreases-loop invariant-records decreases-records
loop-again c =
    let t = c in
    asking_miss _ _ _ _ t.loop-i.invariant t.loop-i-test.true (sym c.has_access.ensures ∙ c.if-has_access.false)

array-write-clear : tie.Need-bounds-clear-number-then-clear-number-eq0 invariant-loop decreases-loop invariant-records decreases-records
array-write-clear c = number_few c.before.before.before.before

add-k : tie.Need-overflow_add-k invariant-loop decreases-loop invariant-records decreases-records
add-k c = omega (arith, c.records-test.true)

records-less : tie.Need-records-smaller invariant-loop decreases-loop invariant-records decreases-records
records-less c = omega (arith, c.records-test.true)

records-again : tie.Need-records-preserved invariant-loop decreases-loop invariant-records decreases-records
records-again c =
    let h = c in
    let t = h in
    let l = t in
    let s = start t.before.before in
    let ds = definitions_in s.args.definitions.now in
    ⊎_elim
    (λ w.
    let listed : creates ds s.args.values.now h.written_type-number.result ≡ false =
    sym (list_is (record { before = record { before = h.before; if-clear-number-eq0 = w.if-clear-number-eq0 }; columns_of-list = w.columns_of-list })) ∙ sym (asking_end _ _ _ _ w.loop-i.invariant w.loop-i-test.false) in
    (asking_miss _ _ _ _ l.records.invariant.0 t.records-test.true (sym (clash_is h.before) ∙ listed), rw w.clear-is (clear_more _ _ _ l.records.invariant.1 h.written_type-number.result listed)))
    (λ w.
    let none = l.records.invariant.1.cleared h.written_type-number.result (number_few h.before) w.if-clear-number-eq0.false in
    (asking_miss _ _ _ _ l.records.invariant.0 t.records-test.true (sym (clash_is h.before) ∙ none), rw w.clear-is l.records.invariant.1))
    c.if-clear-number-eq0.branch-raw

returns : tie.Need-returns-after-records invariant-loop decreases-loop invariant-records decreases-records
returns c =
    let l = c in
    let s = l in
    none_asked _ _ _ _ l.records.invariant.0 c.records-test.false
    ∙ ap (first (clashes (definitions_in s.args.definitions.now) s.args.values.now) 0) l.count-n.ensures

returns-2 : tie.Need-returns-then-has_access invariant-loop decreases-loop invariant-records decreases-records
returns-2 c =
    let a = c in
    let t = a in
    let h = t in
    let w = h in
    let r = w in
    let s = start r.before.before.before.before.before.before.before in
    let some = asking_hit _ _ _ _ t.loop-i.invariant t.loop-i-test.true (sym a.has_access.ensures ∙ c.if-has_access.true) in
    first_asked _ _ _ _ r.records.invariant.0 r.records-test.true (sym (some ∙ list_is h.before.before.before.before ∙ clash_is w.before.before.before.before.before.before))
    ∙ ap (first (clashes (definitions_in s.args.definitions.now) s.args.values.now) 0) r.count-n.ensures

pub first_clash_spec : {M : Type 1} → statement M
first_clash_spec =
    tie.close
    (tie.spec
    invariant-loop
    decreases-loop
    invariant-records
    decreases-records
    count-requires
    records-holds
    written-type-requires
    array-read-if1
    columns-of-requires
    loop-holds
    has-access-requires
    add-i
    loop-less
    loop-again
    array-write-clear
    add-k
    records-less
    records-again
    returns
    returns-2)
