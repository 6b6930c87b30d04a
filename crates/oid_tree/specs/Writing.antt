-- What the writer of OIDs asks, and what it leaves in the number buffer.
-- Assumes nothing.
use Rattle.std.specs.Prelude.{◌≡◌, true, List, ℕ, ◌≤◌, ◌<◌, length}
use Rattle.token.specs.Table.{longest_text}
use Rattle.module_table.specs.Definition.{definitions_in, changed}
use Rattle.module_table.specs.Module.{Module, at, count_of, most_definitions}
use Rattle.oid_head.specs.Oid.{has_value, resolved_oid, first_number}
use Rattle.oid_tree.specs.Stage.{with_oid}

-- the numbers of the module can be counted, and the first n definitions say how many they have
pub record Countable (m : Module) (n : ℕ) : Type 0 where
  pub short : length m.classes ≤ longest_text
  pub few : count_of m ≤ most_definitions
  pub counts : (k : ℕ) → k < n → k < count_of m → (at m k).count ≡ length (resolved_oid m k)

-- the definitions say where their numbers are, and nothing else has changed
pub record Measured (m : Module) (before after : List ℕ) : Type 0 where
  pub as_long : length after ≡ length before
  pub placed : definitions_in after ≡ changed (with_oid m) m.definitions

-- the definitions say where their numbers are
pub record Placed (m : Module) : Type 0 where
  pub counts : (k : ℕ) → k < count_of m → (at m k).count ≡ length (resolved_oid m k)
  pub starts : (k : ℕ) → has_value (at m k) ≡ true → (at m k).start.0 ≡ first_number m k
