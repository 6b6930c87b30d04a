-- `twin_at` is right: the places are the names of the definition and of the first that holds its OID.
-- Assumes nothing.
use mathlib.Core.Path.{ap, ◌∙◌}
use Rattle.module_table.specs.Definition.{definitions_in, entry}
use Rattle.module_table.specs.declared.Definition.{Definition}
use Rattle.oid_holder.specs.Holder.{held_twice}
use borrow.Author.Rules.{rules}
use Rattle.oid_holder.proofs.twin_at.Statement.{statement}
use Rattle.oid_holder.proofs.twin_at.Tie as tie

definition-at-requires : tie.Need-definition_at-own-requires
definition-at-requires c κs = search rules

earlier-holder-requires : tie.Need-earlier_holder-requires
earlier-holder-requires c κs = search rules

definition-at-requires-2 : tie.Need-definition_at-first-requires
definition-at-requires-2 c κs = search rules

returns : tie.Need-returns
unfolding held_twice
returns c =
    let f = c in
    let e = f in
    let k = e in
    let s = k in
    let ds = definitions_in s.args.definitions.now in
    ap (λ (d : Definition). record { number = 15; clause = 0; token = d.name; other = f.definition_at-first.result.name }) k.definition_at-own.ensures
    ∙ ap (λ (d : Definition). record { number = 15; clause = 0; token = (entry ds s.args.k.0).name; other = d.name })
    (f.definition_at-first.ensures ∙ ap (entry ds) e.earlier_holder.ensures)

pub twin_at_spec : {M : Type 1} → statement M
twin_at_spec =
    tie.close
    (tie.spec
    definition-at-requires
    earlier-holder-requires
    definition-at-requires-2
    returns)
