-- `judge_notifications` is right: its first breach is found by the one search.
-- Assumes nothing.
use Prim.Native.Nat.{ℕ}
use lib.ListN.{length}
use mathlib.Core.Path.{refl, ap, ◌∙◌}
use native.Mathlib.Omega.{arith}
use Rattle.module_table.specs.Definition.{definitions_in}
use Rattle.access_check.specs.Notification.{notification_other, notification_broken}
use Rattle.access_check.specs.Found.{found}
use Rattle.access_check.proofs.Faults.{first_broken, none_broken}
use borrow.Author.Rules.{rules}
use Rattle.access_check.proofs.judge.judge_notifications.Statement.{statement}
use Rattle.access_check.proofs.judge.judge_notifications.Tie as tie

count-requires : tie.Need-count-n-requires
count-requires c κs = search rules

first-fault-requires : tie.Need-first_fault-fault-requires
first-fault-requires c κs = search rules

clause-at-requires : tie.Need-clause_at-clause-requires
clause-at-requires c κs = search rules

notification-other-requires : tie.Need-notification_other-other-requires
notification-other-requires c κs = search rules

found-requires : tie.Need-found-requires
found-requires c κs = search rules

returns : tie.Need-returns-then-fault-n
unfolding notification_broken
returns c =
    let o = c in
    let a = o in
    let t = a in
    let f = t in
    let s = f in
    let ds = definitions_in s.args.definitions.now in
    first_broken (notification_broken ds s.args.values.now s.args.numbers.now) (length ds) f.first_fault-fault.result refl refl f.first_fault-fault.ensures (omega (arith, t.if-fault-n.true, f.count-n.ensures)) _
    (c.found.ensures ∙ ap (found ds 22 a.clause_at-clause.result f.first_fault-fault.result) o.notification_other-other.ensures
    ∙ ap (λ (x : ℕ). found ds 22 x f.first_fault-fault.result (notification_other ds s.args.values.now f.first_fault-fault.result x)) a.clause_at-clause.ensures)

returns-2 : tie.Need-returns
unfolding notification_broken
returns-2 c =
    let f = c in
    let s = f in
    let ds = definitions_in s.args.definitions.now in
    none_broken (notification_broken ds s.args.values.now s.args.numbers.now) (length ds) f.first_fault-fault.result refl refl f.first_fault-fault.ensures (omega (arith, c.if-fault-n.false, f.count-n.ensures))

pub judge_notifications_spec : {M : Type 1} → statement M
judge_notifications_spec =
    tie.close
    (tie.spec
    count-requires
    first-fault-requires
    clause-at-requires
    notification-other-requires
    found-requires
    returns
    returns-2)
