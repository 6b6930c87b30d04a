-- `other_token` is right, clause by clause.
-- Assumes nothing.
use mathlib.Core.Path.{◌≡◌, ap, ◌∙◌}
use Prim.Native.Nat.{ℕ, ◌+◌}
use borrow.Author.Tests.{eq-eqb, ne_eqb}
use Rattle.module_table.specs.Definition.{definitions_in, entry}
use Rattle.module_table.specs.declared.Definition.{Definition}
use Rattle.sequence_list.specs.Named.{type_of, first_repeated, first_stranger}
use Rattle.sequence_list.proofs.Marking.{type_few}
use Rattle.table_check.specs.Refusal.{other_token}
use native.Mathlib.Omega.{arith}
use borrow.Author.Rules.{rules}
use Rattle.table_check.proofs.against.other_token.Statement.{statement}
use Rattle.table_check.proofs.against.other_token.Tie as tie

abbrev start_of : tie.After-type_of-number → tie.Start
start_of t = t.before.before.before.before

-- the type of definition k
type_is : (t : tie.After-type_of-number) → (let s = start_of t in t.type_of-number.result ≡ type_of (entry (definitions_in s.args.definitions.now) s.args.k.0))
type_is t = t.type_of-number.ensures ∙ ap type_of t.definition_at.ensures

definition-at-requires : tie.Need-definition_at-requires
definition-at-requires c κs = search rules

type-of-requires : tie.Need-type_of-number-requires
type-of-requires c κs = search rules

first-repeated-requires : tie.Need-first_repeated-requires
first-repeated-requires c κs = omega (arith, c.type_of-number.ensures, type_few c.definition_at.result)

returns : tie.Need-returns-then-clause-eq5
unfolding other_token
returns c =
    let t = c in
    let s = start_of t.before.before in
    rw (eq-eqb _ 5 c.if-clause-eq5.true)
    (c.first_repeated.ensures ∙ ap (first_repeated (definitions_in s.args.definitions.now) s.args.values.now) (type_is t.before.before))

add-first-stranger : tie.Need-overflow_add-k
add-first-stranger c =
    let s = start_of c.before.before.before in
    omega (arith, s.requires)

first-stranger-requires : tie.Need-first_stranger-requires
first-stranger-requires c κs = search rules

returns-2 : tie.Need-returns-then-clause-eq6
unfolding other_token
returns-2 c =
    let e = c in
    let t = e in
    let s = start_of t.before.before.before.before in
    rw (ne_eqb _ 5 e.if-clause-eq5.false, eq-eqb _ 6 c.if-clause-eq6.true)
    (c.first_stranger.ensures ∙ ap (λ (x : ℕ). first_stranger (definitions_in s.args.definitions.now) s.args.values.now x (s.args.k.0 + 1)) (type_is t.before.before.before.before))

other-by-requires : tie.Need-other_by-requires
other-by-requires c κs = search rules

definition-at-requires-2 : tie.Need-definition_at-other-requires
definition-at-requires-2 c κs = search rules

returns-3 : tie.Need-returns
unfolding other_token
returns-3 c =
    let d = c in
    let o = d in
    let e = o in
    let s = start_of e.before.before.before.before.before in
    rw (ne_eqb _ 5 e.if-clause-eq5.false, ne_eqb _ 6 o.if-clause-eq6.false)
    (ap (λ (x : Definition). x.name.0) (d.definition_at-other.ensures ∙ ap (entry (definitions_in s.args.definitions.now)) o.other_by.ensures))

pub other_token_spec : {M : Type 1} → statement M
other_token_spec =
    tie.close
    (tie.spec
    definition-at-requires
    type-of-requires
    first-repeated-requires
    returns
    add-first-stranger
    first-stranger-requires
    returns-2
    other-by-requires
    definition-at-requires-2
    returns-3)
