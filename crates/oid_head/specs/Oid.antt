-- OIDs: document 01, "Built-in symbols" and "Records". All is said of a module m whose names are known; a definition is meant by its
-- index among the module's definitions.
-- Assumes nothing.
use Rattle.std.specs.Prelude.{◌≡◌, Bool, true, false, cond, ◌&&◌, List, [], ◌++◌, ℕ, zero, suc, ltb, length}
use Rattle.index.specs.Walk.{after}
use Rattle.index.specs.declared.RecordIndex.{RecordIndex}
use Rattle.symbol.specs.Symbol.{iso_oid, numbers_of}
use Rattle.definition.specs.Landmark.{has_oid}
use Rattle.oid_number.specs.Number.{parts_in}
use Rattle.module_table.specs.Lead.{lead_at}
use Rattle.module_table.specs.Module.{Module, module_in, at, count_of}
use Rattle.module_table.specs.declared.Lead.{Lead}
use Rattle.module_table.specs.declared.Lead.TheVariants.{Iso, Import, Nothing}
use Rattle.module_table.specs.declared.Definition.{Definition}

-- the module that lies in three slices, before it has any OIDs
abbrev pub named_in : List ℕ → List ℕ → List ℕ → Module
named_in classes values words = module_in classes values words []

-- the definition has an OID value: kinds 1 to 4 and 7; what stands for a definition where there is none is of kind 0
abbrev pub has_value : Definition → Bool
has_value d = ltb 0 d.kind && has_oid d.kind

-- what the head of a definition leads to: its OID's first name
abbrev pub head_in : List ℕ → Definition → Lead
head_in values d = lead_at values d.oid.from

-- what that of definition k leads to
abbrev pub head_of : Module → ℕ → Lead
head_of m k = head_in m.values (at m k)

-- the numbers of a definition's own parts
abbrev pub parts_of : Module → ℕ → List ℕ
parts_of m k = parts_in m.classes m.values (at m k).oid

-- an imported symbol that has an OID: a type and a macro have no numbers
abbrev pub symbol_has_oid : ℕ → Bool
symbol_has_oid k = ltb 0 (length (numbers_of k))

-- What has which OID: `iso` and a built-in symbol their own, and a definition its head's followed by its parts' numbers.
pub data HasOid (m : Module) : Lead → List ℕ → Type 0 where
  of_iso : HasOid m Iso iso_oid
  of_symbol : (k : ℕ) → symbol_has_oid k ≡ true → HasOid m (Import k) (numbers_of k)
  of_definition : (d : RecordIndex) (numbers : List ℕ) → has_value (at m d.0) ≡ true → HasOid m (head_of m d.0) numbers
      → HasOid m (Lead.Definition d) (numbers ++ parts_of m d.0)

-- a built-in name: `iso` or an imported symbol with an OID
abbrev pub is_built_in : Lead → Bool
is_built_in Iso = true
is_built_in (Import k) = symbol_has_oid k
is_built_in (Lead.Definition d) = false
is_built_in Nothing = false

-- from a definition with an OID value to its head, and from anything else nowhere
abbrev pub next_head : Module → Lead → Lead
next_head m Iso = Iso
next_head m (Import k) = Import k
next_head m (Lead.Definition d) = cond (has_value (at m d.0)) (head_of m d.0) (Lead.Definition d)
next_head m Nothing = Nothing

-- the name that leads to definition k
abbrev pub name_of : ℕ → Lead
name_of k = Lead.Definition (record { 0 = k })

-- after so many heads a built-in name is reached
abbrev pub reached_in : Module → ℕ → Lead → Bool
reached_in m n l = is_built_in (after (next_head m) n l)

-- the heads from here on reach a built-in name, if one follows them far enough
abbrev pub Reaches : Module → Lead → Type 0
Reaches m l = (n : ℕ) × (reached_in m n l ≡ true)

-- they do so in as many steps as there are definitions, which is far enough: a path that ends passes no definition twice
unfoldable pub reaches : Module → ℕ → Bool
reaches m k = reached_in m (count_of m) (name_of k)

-- the numbers of what a name leads to, where those of definitions are given
abbrev pub name_numbers : (ℕ → List ℕ) → Lead → List ℕ
name_numbers defined Iso = iso_oid
name_numbers defined (Import k) = numbers_of k
name_numbers defined (Lead.Definition d) = defined d.0
name_numbers defined Nothing = []

-- the numbers of a definition, with so many heads left to follow: its head's, followed by its parts'. Where heads end, as many as
-- there are definitions are enough; none are left only where heads go round
unfoldable pub definition_numbers : Module → ℕ → ℕ → List ℕ
definition_numbers m zero k = []
definition_numbers m (suc n) k =
    cond (has_value (at m k)) (name_numbers (definition_numbers m n) (head_of m k) ++ parts_of m k) []

-- the OID of definition k; conventions and SEQUENCE types have none
unfoldable pub resolved_oid : Module → ℕ → List ℕ
resolved_oid m k = definition_numbers m (count_of m) k

-- the OIDs of the first k definitions, one after the other
unfoldable pub numbers_before : Module → ℕ → List ℕ
numbers_before m zero = []
numbers_before m (suc k) = numbers_before m k ++ resolved_oid m k

-- where the numbers of definition k start among those of all definitions
abbrev pub first_number : Module → ℕ → ℕ
first_number m k = length (numbers_before m k)
