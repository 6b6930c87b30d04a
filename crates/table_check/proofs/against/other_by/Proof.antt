-- `other_by` is right, clause by clause.
-- Assumes nothing.
use mathlib.Core.Path.{ap, ◌∙◌}
use borrow.Author.Tests.{eq-eqb, ne_eqb}
use Rattle.module_table.specs.declared.Definition.{Definition}
use Rattle.object_tree.specs.Words.{number_at}
use Rattle.table_check.specs.Refusal.{definition_or, other_by}
use borrow.Author.Rules.{rules}
use Rattle.table_check.proofs.against.other_by.Statement.{statement}
use Rattle.table_check.proofs.against.other_by.Tie as tie

row-against-requires : tie.Need-row_against-requires
row-against-requires c κs = search rules

returns : tie.Need-returns-then-clause-eq1
unfolding other_by
returns c = rw (eq-eqb _ 1 c.if-clause-eq1.true) c.row_against.ensures

table-against-requires : tie.Need-table_against-requires
table-against-requires c κs = search rules

returns-2 : tie.Need-returns-then-clause-eq2
unfolding other_by
returns-2 c = rw (ne_eqb _ 1 c.if-clause-eq1.false, eq-eqb _ 2 c.if-clause-eq2.true) c.table_against.ensures

definition-at-requires : tie.Need-definition_at-d-requires
definition-at-requires c κs = search rules

definition-or-requires : tie.Need-definition_or-requires
definition-or-requires c κs = search rules

returns-3 : tie.Need-returns-then-clause-eq7
unfolding other_by
returns-3 c =
    let d = c in
    let e = d in
    let s = e in
    rw (ne_eqb _ 1 e.if-clause-eq1.false, ne_eqb _ 2 e.if-clause-eq2.false, eq-eqb _ 7 c.if-clause-eq7.true)
    (c.definition_or.ensures ∙ ap (λ (x : Definition). definition_or s.args.k.0 x.parent) d.definition_at-d.ensures)

number-at-requires : tie.Need-number_at-requires
number-at-requires c κs = search rules

definition-or-requires-2 : tie.Need-definition_or-requires-then-clause-eq8
definition-or-requires-2 c κs = search rules

returns-4 : tie.Need-returns-then-clause-eq8
unfolding other_by
returns-4 c =
    let h = c in
    let d = h in
    let e = d in
    let s = e in
    rw (ne_eqb _ 1 e.if-clause-eq1.false, ne_eqb _ 2 e.if-clause-eq2.false, ne_eqb _ 7 h.if-clause-eq7.false, eq-eqb _ 8 c.if-clause-eq8.true)
    (c.definition_or-then-clause-eq8.ensures ∙ ap (definition_or s.args.k.0) c.number_at.ensures ∙ ap (λ (x : Definition). definition_or s.args.k.0 (number_at s.args.values.now x.augments.from)) d.definition_at-d.ensures)

returns-5 : tie.Need-returns
unfolding other_by
returns-5 c =
    let h = c in
    let e = h in
    rw (ne_eqb _ 1 e.if-clause-eq1.false, ne_eqb _ 2 e.if-clause-eq2.false, ne_eqb _ 7 h.if-clause-eq7.false, ne_eqb _ 8 c.if-clause-eq8.false)

pub other_by_spec : {M : Type 1} → statement M
other_by_spec =
    tie.close
    (tie.spec
    row-against-requires
    returns
    table-against-requires
    returns-2
    definition-at-requires
    definition-or-requires
    returns-3
    number-at-requires
    definition-or-requires-2
    returns-4
    returns-5)
