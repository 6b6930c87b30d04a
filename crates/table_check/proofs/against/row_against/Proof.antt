-- `row_against` is right by two searches.
-- Assumes nothing.
use mathlib.Core.Path.{◌≡◌, ap, ◌∙◌}
use Prim.Native.Nat.{ℕ, ◌+◌}
use native.Mathlib.Omega.{arith}
use lib.ListN.{length}
use Rattle.index.specs.First.{first}
use Rattle.module_table.specs.Definition.{definitions_in, entry}
use Rattle.sequence_list.specs.Named.{type_of}
use Rattle.clause_table.specs.Clause.{is_of}
use Rattle.table_check.specs.Refusal.{type_against, row_against}
use Rattle.table_check.proofs.Searches.{no_row_of, one_row_of, two_rows_of}
use borrow.Author.Rules.{rules}
use Rattle.table_check.proofs.against.row_against.Statement.{statement}
use Rattle.table_check.proofs.against.row_against.Tie as tie

abbrev start : tie.After-type_of-number → tie.Start
start h = h.before.before.before.before

-- the type that is read is that of definition k
type_is : (h : tie.After-type_of-number) → h.type_of-number.result ≡ type_of (entry (definitions_in (start h).args.definitions.now) (start h).args.k.0)
type_is h = h.type_of-number.ensures ∙ ap type_of h.definition_at.ensures

first_is : (h : tie.After-first_of-first) → (let s = start h.before in let ds = definitions_in s.args.definitions.now in h.first_of-first.result.0 ≡ first (is_of ds 14 (type_of (entry ds s.args.k.0))) 0 (length ds))
first_is h = let ds = definitions_in (start h.before).args.definitions.now in h.first_of-first.ensures ∙ ap (λ (t : ℕ). first (is_of ds 14 t) 0 (length ds)) (type_is h.before)

second_is : (h : tie.After-first_of-second) → (let f = h in let s = start f.before.before.before.before.before in let ds = definitions_in s.args.definitions.now in h.first_of-second.result.0 ≡ first (is_of ds 14 (type_of (entry ds s.args.k.0))) (f.first_of-first.result.0 + 1) (length ds))
second_is h =
    let f = h in
    let ds = definitions_in (start f.before.before.before.before.before).args.definitions.now in
    h.first_of-second.ensures ∙ ap (λ (t : ℕ). first (is_of ds 14 t) (f.first_of-first.result.0 + 1) (length ds)) (type_is f.before.before.before.before.before)

count-requires : tie.Need-count-n-requires
count-requires c κs = search rules

definition-at-requires : tie.Need-definition_at-requires
definition-at-requires c κs = search rules

type-of-requires : tie.Need-type_of-number-requires
type-of-requires c κs = search rules

first-of-requires : tie.Need-first_of-first-requires
first-of-requires c κs = search rules

type-against-requires : tie.Need-type_against-requires
type-against-requires c κs = search rules

returns : tie.Need-returns-then-n-first
unfolding row_against
returns c =
    let f = c in
    let s = start f.before.before.before.before in
    let ds = definitions_in s.args.definitions.now in
    c.type_against.ensures ∙ no_row_of _ _ _ (first_is f.before.before.before) (type_against ds s.args.k.0) (omega (arith, c.if-n-first.true, f.count-n.ensures))

add-t10 : tie.Need-overflow_add-first
add-t10 c = search rules

first-of-requires-2 : tie.Need-first_of-second-requires
first-of-requires-2 c κs = search rules

returns-2 : tie.Need-returns-then-n-second
unfolding row_against
returns-2 c =
    let n = c in
    let e = n in
    let f = e in
    let s = start f.before.before.before.before.before.before.before in
    let ds = definitions_in s.args.definitions.now in
    one_row_of _ _ _ (first_is f.before.before.before.before.before.before) (type_against ds s.args.k.0) (omega (arith, e.if-n-first.false, f.count-n.ensures)) _ (second_is n.before.before) (omega (arith, c.if-n-second.true, f.count-n.ensures))

returns-3 : tie.Need-returns
unfolding row_against
returns-3 c =
    let n = c in
    let e = n in
    let f = e in
    let s = start f.before.before.before.before.before.before.before in
    let ds = definitions_in s.args.definitions.now in
    two_rows_of _ _ _ (first_is f.before.before.before.before.before.before) (type_against ds s.args.k.0) (omega (arith, e.if-n-first.false, f.count-n.ensures)) _ (second_is n.before.before) (omega (arith, c.if-n-second.false, f.count-n.ensures))

pub row_against_spec : {M : Type 1} → statement M
row_against_spec =
    tie.close
    (tie.spec
    count-requires
    definition-at-requires
    type-of-requires
    first-of-requires
    type-against-requires
    returns
    add-t10
    first-of-requires-2
    returns-2
    returns-3)
