-- The definitions of a module, laid one after the other into words; and what is read off such words.
-- Assumes nothing.
use Rattle.std.specs.Prelude.{◌≡◌, List, [], ◌∷◌, ℕ, zero, suc, ◌+◌, ◌/◌, length, get_or, set}
use Rattle.definition.specs.Fields.{span}
use Rattle.module_table.specs.declared.Definition.{Definition}

-- how many words a definition has
abbrev pub width : ℕ
width = 22

-- the words of a definition
unfoldable pub words : Definition → List ℕ
words d =
    d.kind
    ∷ d.name.0
    ∷ d.status
    ∷ d.access
    ∷ d.default
    ∷ d.syntax.from
    ∷ d.syntax.to
    ∷ d.index.from
    ∷ d.index.to
    ∷ d.augments.from
    ∷ d.augments.to
    ∷ d.objects.from
    ∷ d.objects.to
    ∷ d.columns.from
    ∷ d.columns.to
    ∷ d.oid.from
    ∷ d.oid.to
    ∷ d.start.0
    ∷ d.count
    ∷ d.class
    ∷ d.sequence
    ∷ d.parent
    ∷ []

-- the definition whose words start at b
abbrev pub definition_from : List ℕ → ℕ → Definition
definition_from ws b = record {
  kind = get_or ws b 0;
  name = record { 0 = get_or ws (b + 1) 0 };
  status = get_or ws (b + 2) 0;
  access = get_or ws (b + 3) 0;
  default = get_or ws (b + 4) 0;
  syntax = span (get_or ws (b + 5) 0) (get_or ws (b + 6) 0);
  index = span (get_or ws (b + 7) 0) (get_or ws (b + 8) 0);
  augments = span (get_or ws (b + 9) 0) (get_or ws (b + 10) 0);
  objects = span (get_or ws (b + 11) 0) (get_or ws (b + 12) 0);
  columns = span (get_or ws (b + 13) 0) (get_or ws (b + 14) 0);
  oid = span (get_or ws (b + 15) 0) (get_or ws (b + 16) 0);
  start = record { 0 = get_or ws (b + 17) 0 };
  count = get_or ws (b + 18) 0;
  class = get_or ws (b + 19) 0;
  sequence = get_or ws (b + 20) 0;
  parent = get_or ws (b + 21) 0;
}

-- what stands for a definition where there is none
unfoldable pub absent : Definition
absent = record {
  kind = 0;
  name = record { 0 = 0 };
  status = 0;
  access = 0;
  default = 0;
  syntax = span 0 0;
  index = span 0 0;
  augments = span 0 0;
  objects = span 0 0;
  columns = span 0 0;
  oid = span 0 0;
  start = record { 0 = 0 };
  count = 0;
  class = 0;
  sequence = 0;
  parent = 0;
}

-- n definitions, the first of which has its words at b
unfoldable pub definitions_from : List ℕ → ℕ → ℕ → List Definition
definitions_from ws b zero = []
definitions_from ws b (suc n) = definition_from ws b ∷ definitions_from ws (b + width) n

-- the definitions that the words hold
unfoldable pub definitions_in : List ℕ → List Definition
definitions_in ws = definitions_from ws 0 (length ws / width)

-- definition k of a list
abbrev pub entry : List Definition → ℕ → Definition
entry ds k = get_or ds k absent

-- the words hold what they held, but for definition k
pub record Stored (old : List ℕ) (k : ℕ) (d : Definition) (new : List ℕ) : Type 0 where
  pub as_long : length new ≡ length old
  pub held : definitions_in new ≡ set (definitions_in old) k d

-- each definition changed by its index, from i on
unfoldable pub changed_from : (ℕ → Definition → Definition) → ℕ → List Definition → List Definition
changed_from f i [] = []
changed_from f i (d ∷ ds) = f i d ∷ changed_from f (suc i) ds

-- each definition changed by its index: what a stage makes of all definitions
abbrev pub changed : (ℕ → Definition → Definition) → List Definition → List Definition
changed f ds = changed_from f 0 ds
