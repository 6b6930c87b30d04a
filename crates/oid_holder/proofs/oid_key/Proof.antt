-- `oid_key` is right: the run holds the definition's OID.
-- Assumes nothing.
use mathlib.Core.Path.{ap, ◌∙◌}
use Rattle.chain.specs.Key.{list_key}
use Rattle.module_table.specs.Module.{oid_in}
use borrow.Author.Rules.{rules}
use Rattle.oid_holder.proofs.oid_key.Statement.{statement}
use Rattle.oid_holder.proofs.oid_key.Tie as tie

definition-at-requires : tie.Need-definition_at-requires
definition-at-requires c κs = search rules

run-of-requires : tie.Need-run_of-requires
run-of-requires c κs = search rules

run-key-requires : tie.Need-run_key-requires
run-key-requires c κs = c.run_of.ensures.inside

returns : tie.Need-returns
returns c =
    let r = c in
    let d = r in
    let s = d in
    c.run_key.ensures ∙ ap list_key (r.run_of.ensures.held ∙ ap (oid_in s.args.numbers.now) d.definition_at.ensures)

pub oid_key_spec : {M : Type 1} → statement M
oid_key_spec = tie.close (tie.spec
    definition-at-requires
    run-of-requires
    run-key-requires
    returns)
