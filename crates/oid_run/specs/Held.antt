-- The run of the number buffer that holds a definition's OID.
-- Assumes nothing.
use Rattle.std.specs.Prelude.{◌≡◌, List, ℕ, ◌+◌, ◌≤◌, length}
use Rattle.module_table.specs.Module.{oid_in}
use Rattle.module_table.specs.declared.Definition.{Definition}
use Rattle.oid_run.specs.Run.{run}
use Rattle.oid_run.specs.declared.list.Run.{Run}

-- the run lies inside the buffer, and holds the OID of the definition
pub record Held (numbers : List ℕ) (d : Definition) (r : Run) : Type 0 where
  pub inside : r.from.0 + r.count ≤ length numbers
  pub held : run numbers r.from.0 r.count ≡ oid_in numbers d
