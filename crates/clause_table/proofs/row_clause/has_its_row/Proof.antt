-- `has_its_row` is right by what is noted of the rows.
-- Assumes nothing.
use mathlib.Core.Path.{◌≡◌, ap, ◌∙◌}
use Prim.Native.Nat.{◌<◌}
use native.Mathlib.Omega.{arith}
use Rattle.module_table.specs.Definition.{definitions_in, entry}
use Rattle.sequence_list.specs.Held.{places}
use Rattle.sequence_list.specs.Named.{type_of}
use Rattle.sequence_list.proofs.Marking.{type_few}
use Rattle.clause_table.proofs.Rows.{not_one, other_parent, own_parent}
use borrow.Author.Rules.{rules}
use Rattle.clause_table.proofs.row_clause.has_its_row.Statement.{statement}
use Rattle.clause_table.proofs.row_clause.has_its_row.Tie as tie

-- the type that is read is that of definition k, and has a place
type_is : (h : tie.After-type_of-number) → (let s = h in h.type_of-number.result ≡ type_of (entry (definitions_in s.args.definitions.now) s.args.k.0))
type_is h = h.type_of-number.ensures ∙ ap type_of h.definition_at.ensures

type_inside : (h : tie.After-type_of-number) → h.type_of-number.result < places
type_inside h = omega (arith, h.type_of-number.ensures, type_few h.definition_at.result)

definition-at-requires : tie.Need-definition_at-requires
definition-at-requires c κs = search rules

type-of-requires : tie.Need-type_of-number-requires
type-of-requires c κs = search rules

mul-if1 : tie.Need-offset_bounds-counts-number
mul-if1 c = omega (arith, type_inside c)

element-copy-out-if1 : tie.Need-bounds-counts-number
element-copy-out-if1 c = type_inside c.before

returns : tie.Need-returns-then-counts-number-ne1
returns c =
    let h = c in
    let s = h in
    not_one _ s.args.numbers.now _ _ _ s.requires.0 _ (type_is h.before.before.before) c.if-counts-number-ne1.true

mul-t9 : tie.Need-offset_bounds-firsts-number
mul-t9 c = omega (arith, type_inside c.before.before.before)

element-copy-out-t12 : tie.Need-bounds-firsts-number
element-copy-out-t12 c = type_inside c.before.before.before.before

definition-at-requires-2 : tie.Need-definition_at-row-requires
definition-at-requires-2 c κs = search rules

add-if2 : tie.Need-overflow_add-k
add-if2 c = search rules

returns-2 : tie.Need-returns-then-row-k
returns-2 c =
    let read = c in
    let e = read in
    let h = e in
    let s = h in
    other_parent _ s.args.numbers.now _ _ _ s.requires.0 _ (type_is h.before.before.before.before.before.before.before.before.before) e.if-counts-number-ne1.false _ read.definition_at-row.ensures c.if-row-k.true

ends-in-one-requires : tie.Need-ends_in_one-requires
ends-in-one-requires c κs = search rules

returns-3 : tie.Need-returns
returns-3 c =
    let read = c in
    let e = read in
    let h = e in
    let s = h in
    c.ends_in_one.ensures ∙ own_parent _ s.args.numbers.now _ _ _ s.requires.0 _ (type_is h.before.before.before.before.before.before.before.before.before.before) e.if-counts-number-ne1.false _ read.definition_at-row.ensures c.if-row-k.false

pub has_its_row_spec : {M : Type 1} → statement M
has_its_row_spec =
    tie.close
    (tie.spec
    definition-at-requires
    type-of-requires
    mul-if1
    element-copy-out-if1
    returns
    mul-t9
    element-copy-out-t12
    definition-at-requires-2
    add-if2
    returns-2
    ends-in-one-requires
    returns-3)
