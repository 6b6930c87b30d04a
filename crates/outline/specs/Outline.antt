-- The outline of a module: its definitions in text order, as the classes of its tokens, `cs`, show them.
-- Assumes nothing.
use Rattle.std.specs.Prelude.{◌≡◌, Bool, true, false, List, map, ℕ, ◌*◌, ◌≤◌, ◌<◌, length, get_or, take, Result, Ok, Err}
use Rattle.definition.specs.Landmark.{definitions, definition_end}
use Rattle.definition.specs.Fields.{fields_of}
use Rattle.definition.specs.declared.Fields.{Fields}
use Rattle.module_table.specs.declared.Definition.{Definition}
use Rattle.module_table.specs.Definition.{width, definitions_in}
use Rattle.module_table.specs.Module.{most_definitions}
use Rattle.index.specs.declared.TokenIndex.{TokenIndex}

-- 1 where something is there, and else 0
abbrev pub flag : Bool → ℕ
flag true = 1
flag false = 0

-- a definition whose name is token d and whose fields are these; what later stages find is 0
abbrev pub outlined : ℕ → Fields → Definition
outlined d f = record {
  kind = f.kind;
  name = record { 0 = d };
  status = f.status;
  access = f.access;
  default = flag f.has_default;
  syntax = f.syntax;
  index = f.index;
  augments = f.augments;
  objects = f.objects;
  columns = f.columns;
  oid = f.oid;
  start = record { 0 = 0 };
  count = 0;
  class = 0;
  sequence = 0;
  parent = 0;
}

-- the definition whose name is token d, up to its end
abbrev pub outlined_at : List ℕ → ℕ → Definition
outlined_at cs d = outlined d (fields_of cs d (definition_end cs d))

-- the definitions of a module in text order
unfoldable pub outline : List ℕ → List Definition
outline cs = map (outlined_at cs) (definitions cs)

-- what collecting leaves: the words hold the definitions, which are so many; or there are too many, and the answer is the name of the
-- first past the most
abbrev pub Outlines : List ℕ → List ℕ → Result ℕ TokenIndex → Type 0
Outlines cs words (Ok count) =
    (count ≡ length (outline cs)) × (count ≤ most_definitions) × (definitions_in (take (count * width) words) ≡ outline cs)
Outlines cs words (Err i) = (most_definitions < length (definitions cs)) × (i.0 ≡ get_or (definitions cs) most_definitions 0)
