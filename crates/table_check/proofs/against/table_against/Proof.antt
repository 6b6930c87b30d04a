-- `table_against` is right by one search.
-- Assumes nothing.
use mathlib.Core.Path.{◌≡◌, ap, ◌∙◌}
use Prim.Native.Nat.{ℕ}
use native.Mathlib.Omega.{arith}
use lib.ListN.{length}
use Rattle.index.specs.First.{first}
use Rattle.module_table.specs.Definition.{definitions_in, entry}
use Rattle.sequence_list.specs.Named.{type_of}
use Rattle.clause_table.specs.Clause.{is_of}
use Rattle.table_check.specs.Refusal.{type_against, table_against}
use Rattle.table_check.proofs.Searches.{first_none_of, first_one_of}
use borrow.Author.Rules.{rules}
use Rattle.table_check.proofs.against.table_against.Statement.{statement}
use Rattle.table_check.proofs.against.table_against.Tie as tie

abbrev start : tie.After-first_of-first → tie.Start
start h = h.before.before.before.before.before

first_is : (h : tie.After-first_of-first) → (let s = start h in let ds = definitions_in s.args.definitions.now in h.first_of-first.result.0 ≡ first (is_of ds 13 (type_of (entry ds s.args.k.0))) 0 (length ds))
first_is h =
    let ds = definitions_in (start h).args.definitions.now in
    h.first_of-first.ensures ∙ ap (λ (t : ℕ). first (is_of ds 13 t) 0 (length ds)) (h.type_of-number.ensures ∙ ap type_of h.definition_at.ensures)

count-requires : tie.Need-count-n-requires
count-requires c κs = search rules

definition-at-requires : tie.Need-definition_at-requires
definition-at-requires c κs = search rules

type-of-requires : tie.Need-type_of-number-requires
type-of-requires c κs = search rules

first-of-requires : tie.Need-first_of-first-requires
first-of-requires c κs = search rules

type-against-requires : tie.Need-type_against-requires
type-against-requires c κs = search rules

returns : tie.Need-returns-then-n-first
unfolding table_against
returns c =
    let f = c in
    let s = start f.before.before.before in
    let ds = definitions_in s.args.definitions.now in
    c.type_against.ensures ∙ first_none_of _ _ _ (first_is f.before.before.before) (type_against ds s.args.k.0) (omega (arith, c.if-n-first.true, f.count-n.ensures))

returns-2 : tie.Need-returns
unfolding table_against
returns-2 c =
    let f = c in
    let s = start f.before.before in
    let ds = definitions_in s.args.definitions.now in
    first_one_of _ _ _ (first_is f.before.before) (type_against ds s.args.k.0) (omega (arith, c.if-n-first.false, f.count-n.ensures))

pub table_against_spec : {M : Type 1} → statement M
table_against_spec =
    tie.close
    (tie.spec
    count-requires
    definition-at-requires
    type-of-requires
    first-of-requires
    type-against-requires
    returns
    returns-2)
