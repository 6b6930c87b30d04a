-- `is_of` is right: all three tests are made.
-- Assumes nothing.
use mathlib.Core.Path.{ap, ◌∙◌}
use mathlib.Core.Bool.{Bool, ◌&&◌}
use Prim.Native.Nat.{ℕ}
use lib.Dec.{eqb}
use Rattle.module_table.specs.declared.Definition.{Definition}
use Rattle.object_tree.specs.Words.{is_object}
use Rattle.sequence_list.specs.Named.{type_of}
use Rattle.clause_table.specs.Clause.{is_of}
use borrow.Author.Rules.{rules}
use Rattle.table_check.proofs.against.is_of.Statement.{statement}
use Rattle.table_check.proofs.against.is_of.Tie as tie

definition-at-requires : tie.Need-definition_at-d-requires
definition-at-requires c κs = search rules

is-object-requires : tie.Need-is_object-requires
is-object-requires c κs = search rules

type-of-requires : tie.Need-type_of-requires
type-of-requires c κs = search rules

returns : tie.Need-returns
unfolding is_of
returns c =
    let o = c in
    let s = o in
    let d = o.definition_at-d.result in
    ap (λ (b : Bool). (b && eqb d.class s.args.class) && eqb c.type_of.result s.args.number) o.is_object.ensures
    ∙ ap (λ (x : ℕ). (is_object d && eqb d.class s.args.class) && eqb x s.args.number) c.type_of.ensures
    ∙ ap (λ (e : Definition). (is_object e && eqb e.class s.args.class) && eqb (type_of e) s.args.number) o.definition_at-d.ensures

pub is_of_spec : {M : Type 1} → statement M
is_of_spec =
    tie.close (tie.spec
    definition-at-requires
    is-object-requires
    type-of-requires
    returns)
