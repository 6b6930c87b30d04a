-- `holds_oid` is right by what is told of the two definitions.
-- Assumes nothing.
use mathlib.Core.Path.{ap, ◌∙◌}
use mathlib.Core.Bool.{Bool, ◌&&◌}
use Rattle.lexicon.specs.Word.{same}
use Rattle.module_table.specs.Definition.{definitions_in, entry}
use Rattle.module_table.specs.Module.{oid_in}
use Rattle.module_table.specs.declared.Definition.{Definition}
use Rattle.oid_holder.specs.Holder.{is_holder}
use borrow.Author.Rules.{rules}
use Rattle.oid_holder.proofs.holds_oid.Statement.{statement}
use Rattle.oid_holder.proofs.holds_oid.Tie as tie

definition-at-requires : tie.Need-definition_at-d-requires
definition-at-requires c κs = search rules

is-holder-requires : tie.Need-is_holder-requires
is-holder-requires c κs = search rules

definition-at-requires-2 : tie.Need-definition_at-requires
definition-at-requires-2 c κs = search rules

same-oid-requires : tie.Need-same_oid-requires
same-oid-requires c κs = search rules

returns : tie.Need-returns
returns c =
    let k = c in
    let h = k in
    let j = h in
    let s = j in
    let numbers = s.args.numbers.now in
    let own = oid_in numbers (entry (definitions_in s.args.definitions.now) s.args.k.0) in
    ap (λ (b : Bool). b && c.same_oid.result) h.is_holder.ensures
    ∙ ap (λ (b : Bool). is_holder j.definition_at-d.result && b) c.same_oid.ensures
    ∙ ap (λ (d : Definition). is_holder j.definition_at-d.result && same (oid_in numbers j.definition_at-d.result) (oid_in numbers d)) k.definition_at.ensures
    ∙ ap (λ (d : Definition). is_holder d && same (oid_in numbers d) own) j.definition_at-d.ensures

pub holds_oid_spec : {M : Type 1} → statement M
holds_oid_spec =
    tie.close
    (tie.spec
    definition-at-requires
    is-holder-requires
    definition-at-requires-2
    same-oid-requires
    returns)
