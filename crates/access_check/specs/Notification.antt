-- Refusal 22 of document 01 as request 8 of document 02 has it: a line for each clause, which says that a notification is at fault.
-- That its OID has two numbers at least is no clause: a head has a number, and the grammar has a part behind it, which has one more. The
-- law is `two_numbers` of the statements.
-- Assumes nothing.
use Rattle.std.specs.Prelude.{◌≡◌, Bool, true, not, List, ℕ, ◌-◌, ◌≤◌, ltb, eqb, length, get_or}
use Rattle.index.specs.First.{any}
use Rattle.rule.specs.Rule.{Rule}
use Rattle.module_table.specs.Definition.{entry}
use Rattle.module_table.specs.Module.{oid_in, name_at, rule_of_definitions}
use Rattle.module_table.specs.declared.Definition.{Definition}
use Rattle.object_tree.specs.Words.{not_accessible, is_notification}
use Rattle.index.specs.Choice.{when◌then◌else◌}
use Rattle.access_check.specs.Access.{has_access, first_with}

-- the OID of each notification has two numbers at least
abbrev pub TwoNumbers : List Definition → List ℕ → Type 0
TwoNumbers ds numbers = (k : ℕ) → is_notification (entry ds k) ≡ true → 2 ≤ length (oid_in numbers (entry ds k))

-- 1: its next-to-last number isn't 0; there is one, since an OID has two at least
abbrev pub is_not_zeroed : List ℕ → Bool
is_not_zeroed oid = not (eqb (get_or oid (length oid - 2) 0) 0)

-- 2: it lists a not-accessible object
unfoldable pub lists_hidden : List Definition → List ℕ → Definition → Bool
lists_hidden ds values d = any (has_access ds values not_accessible) d.objects.from d.objects.to

-- the number of the first clause that puts definition k at fault, which is a notification; 0 where none does
unfoldable pub notification_clause : List Definition → List ℕ → List ℕ → ℕ → ℕ
notification_clause ds values numbers k =
    when not (is_notification (entry ds k)) then 0 else
    when is_not_zeroed (oid_in numbers (entry ds k)) then 1 else
    when lists_hidden ds values (entry ds k) then 2 else
    0

-- the token that definition k stands against by a clause: the first name in OBJECTS of a not-accessible object; else its own name
unfoldable pub notification_other : List Definition → List ℕ → ℕ → ℕ → ℕ
notification_other ds values k clause =
    when eqb clause 2 then first_with ds values not_accessible (entry ds k).objects else name_at ds k

-- 22: rules on notifications
unfoldable pub notification_broken : List Definition → List ℕ → List ℕ → Rule
notification_broken ds values numbers =
    rule_of_definitions 22 ds
    (λ k. ltb 0 (notification_clause ds values numbers k))
    (notification_clause ds values numbers)
    (λ k. notification_other ds values k (notification_clause ds values numbers k))
