-- Each OID of a derived module has two numbers at least: its head has one, and a part stands behind it. Of notifications it is what the
-- rule on them takes for granted.
-- Assumes nothing.
use mathlib.Core.Path.{◌≡◌, sym, ap, ◌∙◌}
use mathlib.Core.Bool.{true}
use mathlib.Core.List.{List}
use Prim.Native.Nat.{ℕ, ◌≤◌, ◌<◌}
use native.Mathlib.Omega.{arith}
use borrow.Author.Tests.{eqb-true}
use lib.Dec.{ltb}
use lib.ListN.{length}
use Rattle.rule.specs.Rule.{judge}
use Rattle.rule.proofs.Judged.{judged_kept}
use Rattle.token.specs.Token.{Meaning}
use Rattle.definition.specs.Landmark.{has_oid, notification}
use Rattle.module_table.specs.Module.{at, oid_of, count_of}
use Rattle.outline.proofs.Outline.{oid_ends}
use Rattle.scope.specs.Token.{classes_of}
use Rattle.naming.specs.Values.{named}
use Rattle.module_tree.specs.OfTree.{EachNumbered}
use Rattle.object_tree.specs.Words.{is_notification}
use Rattle.object_tree.proofs.Parents.{both}
use Rattle.oid_number.proofs.Counts.{parts_length, tokens_inside}
use Rattle.oid_head.specs.Oid.{has_value, parts_of, name_of, Reaches, reaches}
use Rattle.oid_head.proofs.Least as least
use Rattle.oid_head.proofs.Meaning.{value_inside}
use Rattle.oid_head.proofs.Unreached.{all_reach}
use Rattle.oid_tree.specs.Refusal.{collecting_rules}
use Rattle.access_check.specs.Notification.{TwoNumbers}
use Rattle.reader.specs.Reading.{module_of}
use Rattle.reader.proofs.Leaving.{recorded_oid, module_kind}
use Rattle.std.specs.Prelude.{Ok}

-- a notification is of a kind with an OID
pub notification_value : (ms : List Meaning) (k : ℕ) → is_notification (at (module_of ms) k) ≡ true → has_value (at (named ms) k) ≡ true
unfolding has_oid
notification_value ms k is =
    let kind : (at (named ms) k).kind ≡ notification = sym (module_kind ms k) ∙ eqb-true _ notification is in
    rw kind

module _ (ms : List Meaning) (each : EachNumbered (classes_of ms)) where
  -- a definition with an OID has a part of its own
  part_there : (k : ℕ) → has_value (at (named ms) k) ≡ true → 0 < length (parts_of (named ms) k)
  part_there k v =
      let inside = value_inside (named ms) k v in
      let its = (at (named ms) k).oid in
      omega (
        arith,
        each k inside (both (ltb 0 (at (named ms) k).kind) (has_oid (at (named ms) k).kind) v).1,
        ap length (tokens_inside (classes_of ms) its (oid_ends (classes_of ms) k inside)),
        parts_length (classes_of ms) (named ms).values its,
      )

  pub two_numbers : (k : ℕ) → Reaches (named ms) (name_of k) → 2 ≤ length (oid_of (module_of ms) k)
  two_numbers k r =
      omega (
        arith,
        least.two_numbers (named ms) k r (part_there k (least.reached_value (named ms) k r)),
        ap length (recorded_oid ms k),
      )

  -- where 12 is kept, the heads of notifications reach a built-in name
  pub notifications_two : judge (collecting_rules (named ms)) ≡ Ok tt → TwoNumbers (module_of ms).definitions (module_of ms).numbers
  unfolding reaches
  notifications_two kept k is =
      let value = notification_value ms k is in
      let reach = all_reach (named ms) (judged_kept (collecting_rules (named ms)) kept).0 in
      two_numbers k (count_of (named ms), reach k (value_inside (named ms) k value) value)
