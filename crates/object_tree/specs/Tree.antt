-- The tree of objects by their OIDs, and the stage that adds it to a module.
-- Assumes nothing.
use Rattle.std.specs.Prelude.{◌≡◌, Bool, ◌&&◌, List, ℕ, ◌<◌, length, get_or}
use Rattle.chain.specs.Chain.{last_before}
use Rattle.chain.specs.Key.{list_key}
use Rattle.module_table.specs.Definition.{entry, changed}
use Rattle.module_table.specs.Module.{Module, most_definitions, oid_in}
use Rattle.module_table.specs.declared.Definition.{Definition}
use Rattle.oid_run.specs.Run.{is_below}
use Rattle.object_tree.specs.Words.{is_object}

-- an object is the parent of another: the OID of the other is its own plus one number
unfoldable pub is_parent : List ℕ → Definition → Definition → Bool
is_parent numbers parent child =
    is_object parent && (is_object child && is_below (oid_in numbers parent) (oid_in numbers child))

-- the parent of definition k by its number, counted from 1; 0 where there is none. Where refusal 15 is kept there is at most one
abbrev pub parent_of : List Definition → List ℕ → ℕ → ℕ
parent_of ds numbers k = last_before (λ (j : ℕ). is_parent numbers (entry ds j) (entry ds k)) (length ds)

-- a definition with this parent
abbrev pub with_parent : ℕ → Definition → Definition
with_parent parent d = record {
  kind = d.kind;
  name = d.name;
  status = d.status;
  access = d.access;
  default = d.default;
  syntax = d.syntax;
  index = d.index;
  augments = d.augments;
  objects = d.objects;
  columns = d.columns;
  oid = d.oid;
  start = d.start;
  count = d.count;
  class = d.class;
  sequence = d.sequence;
  parent = parent;
}

-- definition k with the parent that an array has for it
abbrev pub with_parents_of : List ℕ → ℕ → Definition → Definition
with_parents_of parents k d = with_parent (get_or parents k 0) d

-- the definitions, each with its parent
unfoldable pub parents_added : List ℕ → List Definition → List Definition
parents_added numbers ds = changed (λ (k : ℕ) (d : Definition). with_parent (parent_of ds numbers k) d) ds

-- the stage: a module whose objects know their parents
abbrev pub with_parents : Module → Module
with_parents m = record {
  classes = m.classes;
  values = m.values;
  definitions = parents_added m.numbers m.definitions;
  numbers = m.numbers;
}

-- the key of the OID of definition k, by which it is chained
abbrev pub key_of : List Definition → List ℕ → ℕ → ℕ
key_of ds numbers k = list_key (oid_in numbers (entry ds k))

-- the parents of all definitions, in an array
pub record ParentTable (ds : List Definition) (numbers parents : List ℕ) : Type 0 where
  pub long : length parents ≡ most_definitions
  pub entry : (k : ℕ) → k < length ds → get_or parents k 0 ≡ parent_of ds numbers k
