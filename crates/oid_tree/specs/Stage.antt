-- The stage of a module with OIDs: each definition says where its numbers start and how many it has, and all numbers stand one after
-- the other without gaps.
-- Assumes nothing.
use Rattle.std.specs.Prelude.{cond, ℕ, length}
use Rattle.module_table.specs.Definition.{changed}
use Rattle.module_table.specs.Module.{Module, count_of}
use Rattle.module_table.specs.declared.Definition.{Definition}
use Rattle.oid_head.specs.Oid.{has_value, resolved_oid, numbers_before, first_number}

-- a definition whose numbers start there and are so many
abbrev pub with_run : ℕ → ℕ → Definition → Definition
with_run start count d = record {
  kind = d.kind;
  name = d.name;
  status = d.status;
  access = d.access;
  default = d.default;
  syntax = d.syntax;
  index = d.index;
  augments = d.augments;
  objects = d.objects;
  columns = d.columns;
  oid = d.oid;
  start = record { 0 = start };
  count = count;
  class = d.class;
  sequence = d.sequence;
  parent = d.parent;
}

-- definition k with the run of its OID; one that has none starts at 0
unfoldable pub with_oid : Module → ℕ → Definition → Definition
with_oid m k d = with_run (cond (has_value d) (first_number m k) 0) (length (resolved_oid m k)) d

-- the module with its OIDs
unfoldable pub with_oids : Module → Module
with_oids m = record {
  classes = m.classes;
  values = m.values;
  definitions = changed (with_oid m) m.definitions;
  numbers = numbers_before m (count_of m);
}
