-- `finding_at` is right: the two places are those of the definition's name.
-- Assumes nothing.
use mathlib.Core.Path.{ap}
use Rattle.module_table.specs.declared.Definition.{Definition}
use borrow.Author.Rules.{rules}
use Rattle.oid_head.proofs.finding.finding_at.Statement.{statement}
use Rattle.oid_head.proofs.finding.finding_at.Tie as tie

definition-at-requires : tie.Need-definition_at-own-requires
definition-at-requires c κs = search rules

returns : tie.Need-returns
returns c =
    let s = c in
    ap (λ (d : Definition). record { number = s.args.number; clause = 0; token = d.name; other = d.name })
    c.definition_at-own.ensures

pub finding_at_spec : {M : Type 1} → statement M
finding_at_spec = tie.close (tie.spec
    definition-at-requires
    returns)
