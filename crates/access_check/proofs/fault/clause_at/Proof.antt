-- `clause_at` is right, check by check.
-- Assumes nothing.
use mathlib.Core.Path.{sym, ap, subst, ◌∙◌}
use Rattle.module_table.specs.Definition.{definitions_in}
use Rattle.access_check.specs.declared.Check.{Check}
use Rattle.access_check.specs.Found.{Granted, own_clause, check_clause}
use borrow.Author.Rules.{rules}
use Rattle.access_check.proofs.fault.clause_at.Statement.{statement}
use Rattle.access_check.proofs.fault.clause_at.Tie as tie

enum_told : tie.Need-enum_told-1
enum_told c = search rules

definition-at-requires : tie.Need-definition_at-requires
definition-at-requires c κs = search rules

own-clause-requires : tie.Need-own_clause-requires
own-clause-requires c κs = search rules

enum-told-2 : tie.Need-enum_told-in-Notification
enum-told-2 c = search rules

notification-clause-requires : tie.Need-notification_clause-requires
notification-clause-requires c κs =
    let s = c in
    subst (Granted (definitions_in s.args.definitions.now) s.args.numbers.now) c.in-Notification.is s.requires

returns : tie.Need-returns-in-Access
returns c =
    let s = c in
    let ds = definitions_in s.args.definitions.now in
    c.own_clause.ensures ∙ ap (own_clause ds) c.definition_at.ensures
    ∙ sym (ap (λ (x : Check). check_clause ds s.args.values.now s.args.numbers.now x s.args.k.0) c.in-Access.is)

returns-2 : tie.Need-returns-in-Notification
returns-2 c =
    let s = c in
    let ds = definitions_in s.args.definitions.now in
    c.notification_clause.ensures
    ∙ sym (ap (λ (x : Check). check_clause ds s.args.values.now s.args.numbers.now x s.args.k.0) c.in-Notification.is)

pub clause_at_spec : {M : Type 1} → statement M
clause_at_spec =
    tie.close
    (tie.spec
    enum_told
    definition-at-requires
    own-clause-requires
    enum-told-2
    notification-clause-requires
    returns
    returns-2)
