-- `judge_objects` is right: three rules in a row, each of the definitions with their parents.
-- Assumes nothing.
use Rattle.std.proofs.Common.{rules, sym, ap, subst, ◌≡◌, ◌∙◌, List, length, arith}
use Rattle.rule.specs.Rule.{judge_one}
use Rattle.module_table.specs.declared.Definition.{Definition}
use Rattle.module_table.specs.Definition.{definitions_in}
use Rattle.table_check.specs.Refusal.{table_broken}
use Rattle.access_check.specs.Access.{access_broken}
use Rattle.access_check.specs.Notification.{TwoNumbers, notification_broken}
use Rattle.reader.specs.Reading.{object_rules}
use Rattle.reader.proofs.Counting.{parents_counted}
use Rattle.reader.proofs.Row.{first_of_three, second_of_three, third_of_three}
use Rattle.reader.proofs.objects.judge_objects.Goals as goal

pub judge_tables-requires : goal.judge_tables-requires
judge_tables-requires c =
    omega (arith, ap length c.collect_parents.ensures, parents_counted c.args.numbers.now (definitions_in c.args.definitions.now), c.requires.few)

pub returns-in_err-judge_tables : goal.returns-in_err-judge_tables
unfolding object_rules
returns-in_err-judge_tables c =
    let same : c.from_residual.result ≡ c.judge_tables.result = search rules in
    let tables = c.judge_tables.ensures ∙ ap (λ (ds : List Definition). judge_one (table_broken ds c.args.values.now c.args.numbers.now)) c.collect_parents.ensures in
    record { held = c.collect_parents.ensures; judged = same ∙ first_of_three _ _ _ _ tables _ c.in_err-judge_tables.was }

pub returns-in_err-judge_access : goal.returns-in_err-judge_access
unfolding object_rules
returns-in_err-judge_access c =
    let same : c.from_residual-in_err-judge_access.result ≡ c.judge_access.result = search rules in
    let tables = c.judge_tables.ensures ∙ ap (λ (ds : List Definition). judge_one (table_broken ds c.args.values.now c.args.numbers.now)) c.collect_parents.ensures in
    let access = c.judge_access.ensures ∙ ap (λ (ds : List Definition). judge_one (access_broken ds c.args.values.now)) c.collect_parents.ensures in
    record { held = c.collect_parents.ensures; judged = same ∙ second_of_three _ _ _ _ tables c.in_ok-judge_tables.was _ access _ c.in_err-judge_access.was }

pub judge_notifications-requires : goal.judge_notifications-requires
judge_notifications-requires c = subst (λ (ds : List Definition). TwoNumbers ds c.args.numbers.now) (sym c.collect_parents.ensures) c.requires.two

pub returns : goal.returns
unfolding object_rules
returns c =
    let tables = c.judge_tables.ensures ∙ ap (λ (ds : List Definition). judge_one (table_broken ds c.args.values.now c.args.numbers.now)) c.collect_parents.ensures in
    let access = c.judge_access.ensures ∙ ap (λ (ds : List Definition). judge_one (access_broken ds c.args.values.now)) c.collect_parents.ensures in
    record {
      held = c.collect_parents.ensures;
      judged =
          third_of_three _ _ _ _ tables c.in_ok-judge_tables.was _ access c.in_ok-judge_access.was _
          (c.judge_notifications.ensures
          ∙ ap (λ (ds : List Definition). judge_one (notification_broken ds c.args.values.now c.args.numbers.now)) c.collect_parents.ensures);
    }
