-- `notification_clause` is right, test by test: two clauses, by the law of three of which the first is never broken.
-- Assumes nothing.
use mathlib.Core.Path.{◌≡◌, refl, sym, ap, subst, ◌∙◌}
use mathlib.Core.Bool.{Bool, true, false, not}
use Prim.Native.Nat.{◌≤◌}
use lib.ListN.{length}
use borrow.Author.Tests.{not-false}
use Rattle.module_table.specs.Definition.{definitions_in}
use Rattle.module_table.specs.Module.{oid_in}
use Rattle.module_table.specs.declared.Definition.{Definition}
use Rattle.object_tree.specs.Words.{is_notification}
use Rattle.access_check.specs.Notification.{is_not_zeroed, lists_hidden, notification_clause}
use Rattle.access_check.proofs.Faults.{chain, chain_exempt, chain_second, chain_third, chain_none}
use borrow.Author.Rules.{rules}
use Rattle.access_check.proofs.notification.notification_clause.Statement.{statement}
use Rattle.access_check.proofs.notification.notification_clause.Tie as tie

abbrev start : tie.After-definition_at-d → tie.Start
start h = h.before.before.before.before

-- the tests of the definition that is read
abbrev other : tie.After-definition_at-d → Bool
other h = not (is_notification h.definition_at-d.result)

abbrev not_zeroed : tie.After-definition_at-d → Bool
not_zeroed h = is_not_zeroed (oid_in (start h).args.numbers.now h.definition_at-d.result)

abbrev hidden : tie.After-definition_at-d → Bool
hidden h = lists_hidden (definitions_in (start h).args.definitions.now) (start h).args.values.now h.definition_at-d.result

-- the clauses of the definition that is read are those of definition k
read : (h : tie.After-definition_at-d) → (let s = start h in
    chain (other h) false (not_zeroed h) (hidden h) 0 1 2 ≡ notification_clause (definitions_in s.args.definitions.now) s.args.values.now s.args.numbers.now s.args.k.0)
unfolding notification_clause
read h =
    let s = start h in
    let ds = definitions_in s.args.definitions.now in
    ap (λ (d : Definition). chain (not (is_notification d)) false (is_not_zeroed (oid_in s.args.numbers.now d)) (lists_hidden ds s.args.values.now d) 0 1 2) h.definition_at-d.ensures

definition-at-requires : tie.Need-definition_at-d-requires
definition-at-requires c κs = search rules

is-notification-requires : tie.Need-is_notification-requires
is-notification-requires c κs = search rules

returns : tie.Need-returns-then-not-is_notification
returns c =
    let h = c in
    chain_exempt (other h.before.before) false (not_zeroed h.before.before) (hidden h.before.before) 0 1 2 (ap not (sym c.is_notification.ensures) ∙ (ap not c.if-not-is_notification.true)) ∙ read h.before.before

-- a definition that is not exempt is a notification, so its OID has two numbers
not_other : (e : tie.Else-not-is_notification) → other e.before.before ≡ false
not_other e = ap not (sym e.is_notification.ensures) ∙ (ap not e.if-not-is_notification.false)

is-not-zeroed-requires : tie.Need-is_not_zeroed-requires
is-not-zeroed-requires c κs =
    let h = c in
    let s = start h.before.before in
    subst (λ (d : Definition). is_notification d ≡ true → 2 ≤ length (oid_in s.args.numbers.now d)) (sym h.definition_at-d.ensures) (s.requires s.args.k.0)
    (not-false _ (not_other c))

returns-2 : tie.Need-returns-then-is_not_zeroed
returns-2 c =
    let e = c in
    let h = e in
    chain_second (other h.before.before.before.before) false (not_zeroed h.before.before.before.before) (hidden h.before.before.before.before) 0 1 2 (not_other e.before.before) refl (sym c.is_not_zeroed.ensures ∙ c.if-is_not_zeroed.true) ∙ read h.before.before.before.before

lists-hidden-requires : tie.Need-lists_hidden-requires
lists-hidden-requires c κs = search rules

returns-3 : tie.Need-returns-then-lists_hidden
returns-3 c =
    let f = c in
    let e = f in
    let h = e in
    chain_third (other h.before.before.before.before.before.before) false (not_zeroed h.before.before.before.before.before.before) (hidden h.before.before.before.before.before.before) 0 1 2 (not_other e.before.before.before.before) refl (sym f.is_not_zeroed.ensures ∙ f.if-is_not_zeroed.false)
    (sym c.lists_hidden.ensures ∙ c.if-lists_hidden.true) ∙ read h.before.before.before.before.before.before

returns-4 : tie.Need-returns
returns-4 c =
    let f = c in
    let e = f in
    let h = e in
    chain_none (other h.before.before.before.before.before.before) false (not_zeroed h.before.before.before.before.before.before) (hidden h.before.before.before.before.before.before) 0 1 2 (not_other e.before.before.before.before) refl (sym f.is_not_zeroed.ensures ∙ f.if-is_not_zeroed.false)
    (sym c.lists_hidden.ensures ∙ c.if-lists_hidden.false) ∙ read h.before.before.before.before.before.before

pub notification_clause_spec : {M : Type 1} → statement M
notification_clause_spec =
    tie.close
    (tie.spec
    definition-at-requires
    is-notification-requires
    returns
    is-not-zeroed-requires
    returns-2
    lists-hidden-requires
    returns-3
    returns-4)
