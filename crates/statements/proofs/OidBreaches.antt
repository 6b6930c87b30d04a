-- The rows 12 to 15 are the rules on OIDs. And rules over the definitions of a stage, by the names of the definitions.
-- Assumes nothing.
use mathlib.Core.Path.{◌≡◌, ◌∙◌}
use mathlib.Core.Bool.{Bool, true}
use mathlib.Core.List.{List}
use Prim.Native.Nat.{ℕ, suc, ◌≤◌, ◌<◌}
use native.Mathlib.Omega.{arith}
use lib.ListN.{length}
use borrow.Author.Tests.{ltb-true, leb-true, lt-ltb, le-leb}
use Rattle.index.proofs.Search.{any_at}
use Rattle.lexicon.proofs.Words.{same_equal}
use Rattle.token.specs.Token.{Meaning}
use Rattle.module_table.specs.declared.Definition.{Definition}
use Rattle.module_table.specs.Definition.{entry}
use Rattle.module_table.specs.Module.{at, oid_of, rule_of_definitions}
use Rattle.outline.specs.Outline.{outline}
use Rattle.outline.proofs.Outline.{outline_counted}
use Rattle.scope.specs.Token.{classes_of}
use Rattle.naming.specs.Values.{named}
use Rattle.oid_head.specs.Oid.{has_value, name_of, Reaches, resolved_oid, first_number}
use Rattle.oid_head.specs.Unreached as rule
use Rattle.oid_head.proofs.Unreached.{broken_never, never_broken}
use Rattle.oid_tree.specs.Refusal.{longest_oid, most_numbers, too_long, past_room}
use Rattle.oid_holder.specs.Holder.{is_holder, holds_oid}
use Rattle.oid_holder.specs.Holder.{held_twice as held-rule}
use Rattle.reader.specs.Reading.{numbered}
use Rattle.statements.specs.Breach.{definition_count, name_token, ModuleBreach, unreached, long_oid, many_numbers, held_twice}
use Rattle.statements.proofs.Tests.{both, joined, found}
use Rattle.statements.proofs.Ordered.{Broken, BrokenBy}
use Rattle.statements.proofs.RisingModule.{Keeps, outline_name}
use Rattle.statements.proofs.Rising.{named_keeps, numbered_keeps}
use Rattle.statements.proofs.NameBreaches.{spelled_same}

module _ (ms : List Meaning) where
  -- ---- rules over the definitions of a stage

  module _ {ds : List Definition} (keeps : Keeps (outline (classes_of ms)) ds) where
    pub all_there : length ds ≡ definition_count ms
    all_there = keeps.counted ∙ outline_counted (classes_of ms)

    pub at_name : (k : ℕ) → (entry ds k).name.0 ≡ name_token ms k
    at_name k = keeps.names k ∙ outline_name (classes_of ms) k

    pub definition_broken : (number : ℕ) (breach : ℕ → Bool) (clause other : ℕ → ℕ) (k : ℕ) → k < definition_count ms → breach k ≡ true
        → BrokenBy (rule_of_definitions number ds breach clause other) (name_token ms k)
    definition_broken number breach clause other k h e = record {
      index = k;
      broken = record { from = omega arith; below = omega (arith, all_there); breaks = e };
      placed = at_name k;
    }

    -- what such a rule tells of definition k is told at its name
    pub definition_told : (number : ℕ) (breach : ℕ → Bool) (clause other : ℕ → ℕ) (k : ℕ) → Broken (rule_of_definitions number ds breach clause other) k
        → (k < definition_count ms → breach k ≡ true → ModuleBreach ms number (name_token ms k))
        → ModuleBreach ms number ((rule_of_definitions number ds breach clause other).place k)
    definition_told number breach clause other k b tell = rw (at_name k) (tell (omega (arith, b.below, all_there)) b.breaks)

  -- ---- the rows

  pub unreached_told : (k : ℕ) → Broken (rule.unreached (named ms)) k → ModuleBreach ms 12 ((rule.unreached (named ms)).place k)
  unfolding rule.unreached
  unreached_told k b =
      definition_told (named_keeps ms) 12 _ _ _ k b (λ h e. let x = broken_never (named ms) k e in unreached h x.0 x.1)

  pub unreached_broken : (k : ℕ) → k < definition_count ms → has_value (at (named ms) k) ≡ true → (Reaches (named ms) (name_of k) → ⊥)
      → BrokenBy (rule.unreached (named ms)) (name_token ms k)
  unfolding rule.unreached
  unreached_broken k h e none = definition_broken (named_keeps ms) 12 _ _ _ k h (never_broken (named ms) k e none)

  pub long_told : (k : ℕ) → Broken (too_long (named ms)) k → ModuleBreach ms 13 ((too_long (named ms)).place k)
  unfolding too_long
  long_told k b =
      definition_told (named_keeps ms) 13 _ _ _ k b (λ h e. long_oid h (ltb-true longest_oid (length (resolved_oid (named ms) k)) e))

  pub long_broken : (k : ℕ) → k < definition_count ms → longest_oid < length (resolved_oid (named ms) k) → BrokenBy (too_long (named ms)) (name_token ms k)
  unfolding too_long
  long_broken k h l = definition_broken (named_keeps ms) 13 _ _ _ k h (lt-ltb longest_oid (length (resolved_oid (named ms) k)) l)

  pub room_told : (k : ℕ) → Broken (past_room (named ms)) k → ModuleBreach ms 14 ((past_room (named ms)).place k)
  unfolding past_room
  room_told k b =
      definition_told (named_keeps ms) 14 _ _ _ k b
      (λ h e.
      let two = both _ _ e in
      many_numbers h (leb-true (first_number (named ms) k) most_numbers two.0) (ltb-true most_numbers (first_number (named ms) (suc k)) two.1))

  pub room_broken : (k : ℕ) → k < definition_count ms → first_number (named ms) k ≤ most_numbers → most_numbers < first_number (named ms) (suc k)
      → BrokenBy (past_room (named ms)) (name_token ms k)
  unfolding past_room
  room_broken k h few many =
      definition_broken (named_keeps ms) 14 _ _ _ k h
      (joined (le-leb (first_number (named ms) k) most_numbers few) (lt-ltb most_numbers (first_number (named ms) (suc k)) many))

  pub held_told : (k : ℕ) → Broken (held-rule (numbered ms).definitions (numbered ms).numbers) k
      → ModuleBreach ms 15 ((held-rule (numbered ms).definitions (numbered ms).numbers).place k)
  unfolding held-rule
  held_told k b =
      definition_told (numbered_keeps ms) 15 _ _ _ k b
      (λ h e.
      let two = both (is_holder (at (numbered ms) k)) _ e in
      let f = found (holds_oid (numbered ms).definitions (numbered ms).numbers k) 0 k two.1 in
      let x = both (is_holder (at (numbered ms) f.0)) _ f.3 in
      held_twice f.0 h f.2 two.0 x.0 (same_equal _ _ x.1))

  pub held_broken : (k j : ℕ) → k < definition_count ms → j < k → is_holder (at (numbered ms) k) ≡ true → is_holder (at (numbered ms) j) ≡ true
      → oid_of (numbered ms) j ≡ oid_of (numbered ms) k → BrokenBy (held-rule (numbered ms).definitions (numbered ms).numbers) (name_token ms k)
  unfolding held-rule
  held_broken k j h l own other is =
      definition_broken (numbered_keeps ms) 15 _ _ _ k h
      (joined own (any_at (holds_oid (numbered ms).definitions (numbered ms).numbers k) 0 k j (omega arith) l (joined other (spelled_same _ _ is))))
