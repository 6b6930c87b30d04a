-- The stage that finds the classes: of all conventions first, and then of the objects, which look at those of the conventions.
-- `cs` are the classes of a module's tokens, `vs` their values.
-- Assumes nothing.
use Rattle.std.specs.Prelude.{List, ℕ, eqb}
use Rattle.definition.specs.Landmark.{object, convention}
use Rattle.module_table.specs.Definition.{changed}
use Rattle.module_table.specs.Module.{Module}
use Rattle.module_table.specs.declared.Definition.{Definition}
use Rattle.index.specs.Choice.{when◌then◌else◌}
use Rattle.type_class.specs.Class.{syntax_in, convention_class, object_class, sequence_number}

-- a definition with another class and another SEQUENCE type
abbrev pub with_class : Definition → ℕ → ℕ → Definition
with_class d class sequence = record {
  kind = d.kind;
  name = d.name;
  status = d.status;
  access = d.access;
  default = d.default;
  syntax = d.syntax;
  index = d.index;
  augments = d.augments;
  objects = d.objects;
  columns = d.columns;
  oid = d.oid;
  start = d.start;
  count = d.count;
  class = class;
  sequence = sequence;
  parent = d.parent;
}

-- a convention has its class
unfoldable pub convention_classed : List ℕ → List ℕ → Definition → Definition
convention_classed cs vs d =
    when eqb d.kind convention then with_class d (convention_class vs (syntax_in cs d.syntax)) d.sequence else d

-- all conventions have theirs
abbrev pub conventions_classed : List ℕ → List ℕ → List Definition → List Definition
conventions_classed cs vs ds = changed (λ k. λ d. convention_classed cs vs d) ds

-- an object has its class and its SEQUENCE type; `ds` are the definitions, the conventions with their classes
unfoldable pub object_classed : List ℕ → List ℕ → List Definition → Definition → Definition
object_classed cs vs ds d =
    when eqb d.kind object
    then with_class d (object_class vs ds (syntax_in cs d.syntax))
    (sequence_number vs (object_class vs ds (syntax_in cs d.syntax)) (syntax_in cs d.syntax))
    else d

-- all objects have theirs
abbrev pub objects_classed : List ℕ → List ℕ → List Definition → List Definition
objects_classed cs vs ds = changed (λ k. λ d. object_classed cs vs ds d) ds

-- the definitions with their classes
abbrev pub definitions_classed : List ℕ → List ℕ → List Definition → List Definition
definitions_classed cs vs ds = objects_classed cs vs (conventions_classed cs vs ds)

-- a module with the classes and SEQUENCE types of its definitions
abbrev pub with_classes : Module → Module
with_classes m = record {
  classes = m.classes;
  values = m.values;
  definitions = definitions_classed m.classes m.values m.definitions;
  numbers = m.numbers;
}
