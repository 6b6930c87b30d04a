-- `own_clause` is right, test by test.
-- Assumes nothing.
use mathlib.Core.Path.{sym, ap, ◌∙◌}
use mathlib.Core.Bool.{not}
use Rattle.module_table.specs.Definition.{definitions_in}
use Rattle.access_check.specs.Access.{open_table, created_alone, unfit_counter}
use Rattle.object_tree.specs.Words.{is_object}
use Rattle.access_check.proofs.Faults.{chain_exempt, chain_first, chain_second, chain_third, chain_none}
use mathlib.Core.Path.{sym, ◌∙◌}
use Rattle.access_check.specs.Found.{own_clause}
use borrow.Author.Rules.{rules}
use Rattle.access_check.proofs.access.own_clause.Statement.{statement}
use Rattle.access_check.proofs.access.own_clause.Tie as tie

is-object-requires : tie.Need-is_object-requires
is-object-requires c κs = search rules

returns : tie.Need-returns-then-not-is_object
unfolding own_clause
returns c =
    let s = c in
    let ds = definitions_in s.args.definitions.now in
    let d = s.args.d in
    chain_exempt (not (is_object d)) (open_table d) (created_alone ds d) (unfit_counter d) 2 3 4 (ap not (sym c.is_object.ensures) ∙ (ap not c.if-not-is_object.true))

is-open-table-requires : tie.Need-is_open_table-requires
is-open-table-requires c κs = search rules

returns-2 : tie.Need-returns-then-is_open_table
unfolding own_clause
returns-2 c =
    let e = c in
    let s = e in
    let ds = definitions_in s.args.definitions.now in
    let d = s.args.d in
    chain_first (not (is_object d)) (open_table d) (created_alone ds d) (unfit_counter d) 2 3 4 (ap not (sym e.is_object.ensures) ∙ (ap not e.if-not-is_object.false)) (sym c.is_open_table.ensures ∙ c.if-is_open_table.true)

is-created-alone-requires : tie.Need-is_created_alone-requires
is-created-alone-requires c κs = search rules

returns-3 : tie.Need-returns-then-is_created_alone
unfolding own_clause
returns-3 c =
    let f = c in
    let e = f in
    let s = e in
    let ds = definitions_in s.args.definitions.now in
    let d = s.args.d in
    chain_second (not (is_object d)) (open_table d) (created_alone ds d) (unfit_counter d) 2 3 4 (ap not (sym e.is_object.ensures) ∙ (ap not e.if-not-is_object.false)) (sym f.is_open_table.ensures ∙ f.if-is_open_table.false)
    (sym c.is_created_alone.ensures ∙ c.if-is_created_alone.true)

is-unfit-counter-requires : tie.Need-is_unfit_counter-requires
is-unfit-counter-requires c κs = search rules

returns-4 : tie.Need-returns-then-is_unfit_counter
unfolding own_clause
returns-4 c =
    let g = c in
    let f = g in
    let e = f in
    let s = e in
    let ds = definitions_in s.args.definitions.now in
    let d = s.args.d in
    chain_third (not (is_object d)) (open_table d) (created_alone ds d) (unfit_counter d) 2 3 4 (ap not (sym e.is_object.ensures) ∙ (ap not e.if-not-is_object.false)) (sym f.is_open_table.ensures ∙ f.if-is_open_table.false)
    (sym g.is_created_alone.ensures ∙ g.if-is_created_alone.false) (sym c.is_unfit_counter.ensures ∙ c.if-is_unfit_counter.true)

returns-5 : tie.Need-returns
unfolding own_clause
returns-5 c =
    let g = c in
    let f = g in
    let e = f in
    let s = e in
    let ds = definitions_in s.args.definitions.now in
    let d = s.args.d in
    chain_none (not (is_object d)) (open_table d) (created_alone ds d) (unfit_counter d) 2 3 4 (ap not (sym e.is_object.ensures) ∙ (ap not e.if-not-is_object.false)) (sym f.is_open_table.ensures ∙ f.if-is_open_table.false)
    (sym g.is_created_alone.ensures ∙ g.if-is_created_alone.false) (sym c.is_unfit_counter.ensures ∙ c.if-is_unfit_counter.false)

pub own_clause_spec : {M : Type 1} → statement M
own_clause_spec =
    tie.close
    (tie.spec
    is-object-requires
    returns
    is-open-table-requires
    returns-2
    is-created-alone-requires
    returns-3
    is-unfit-counter-requires
    returns-4
    returns-5)
