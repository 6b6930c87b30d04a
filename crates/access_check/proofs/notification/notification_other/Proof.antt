-- `notification_other` is right: it is the definition.
-- Assumes nothing.
use mathlib.Core.Path.{ap, ◌∙◌}
use borrow.Author.Tests.{eq-eqb, ne_eqb}
use Rattle.module_table.specs.Definition.{definitions_in}
use Rattle.module_table.specs.declared.Definition.{Definition}
use Rattle.object_tree.specs.Words.{not_accessible}
use Rattle.access_check.specs.Access.{first_with}
use Rattle.access_check.specs.Notification.{notification_other}
use borrow.Author.Rules.{rules}
use Rattle.access_check.proofs.notification.notification_other.Statement.{statement}
use Rattle.access_check.proofs.notification.notification_other.Tie as tie

definition-at-requires : tie.Need-definition_at-d-requires
definition-at-requires c κs = search rules

first-with-requires : tie.Need-first_with-requires
first-with-requires c κs = search rules

returns : tie.Need-returns-then-clause-eq2
unfolding notification_other
returns c =
    let d = c in
    let s = d in
    rw (eq-eqb _ 2 c.if-clause-eq2.true)
    (c.first_with.ensures ∙ ap (λ (x : Definition). first_with (definitions_in s.args.definitions.now) s.args.values.now not_accessible x.objects) d.definition_at-d.ensures)

returns-2 : tie.Need-returns
unfolding notification_other
returns-2 c =
    let e = c in
    rw (ne_eqb _ 2 e.if-clause-eq2.false) (ap (λ (x : Definition). x.name.0) e.definition_at-d.ensures)

pub notification_other_spec : {M : Type 1} → statement M
notification_other_spec =
    tie.close (tie.spec
    definition-at-requires
    first-with-requires
    returns
    returns-2)
