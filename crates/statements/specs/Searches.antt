-- Laws that say a search of the layers in plain words, each both ways.
-- Assumes nothing.
use Rattle.std.specs.Prelude.{◌≡◌, ◌↔◌, true, List, [], ◌∷◌, ◌++◌, ℕ, suc, ◌≤◌, ◌<◌, length}
use Rattle.token.specs.Token.{Meaning}
use Rattle.symbol.specs.Symbol.{iso_name, symbol_of, symbol_count}
use Rattle.module_table.specs.Module.{Module, at, oid_of}
use Rattle.module_table.specs.declared.Lead.{Lead}
use Rattle.module_table.specs.declared.Lead.TheVariants.{Iso, Import, Definition, Nothing}
use Rattle.scope.specs.Token.{classes_of, spelled}
use Rattle.scope.specs.Import.{is_import}
use Rattle.scope.specs.Lead.{leads_to}
use Rattle.oid_head.specs.Oid.{HasOid, has_value, name_of, Reaches}
use Rattle.oid_head.specs.Unreached.{unreached}
use Rattle.clause_table.specs.Clause.{has_one_row}
use Rattle.object_tree.specs.Words.{is_object}
use Rattle.reader.specs.Reading.{module_of}
use Rattle.statements.specs.Breach.{definition_count, name_token, Offers, parent, OneRow, ModuleBreach}

-- a symbol of this name is imported
abbrev pub Imported : List Meaning → List ℕ → Type 0
Imported ms s = (i : ℕ) × (is_import (classes_of ms) i ≡ true) × (spelled ms i ≡ s)

-- definition k has this name
abbrev pub Named : List Meaning → List ℕ → ℕ → Type 0
Named ms s k = (k < definition_count ms) × (spelled ms (name_token ms k) ≡ s)

-- What a name leads to, where no token breaks rule 9 or 10: `iso`, the built-in symbol that is imported by it, the definition of that
-- name, or nothing.
pub record LeadsPlainly (ms : List Meaning) (s : List ℕ) : Type 0 where
  pub to_iso : (leads_to ms s ≡ Iso) ↔ (s ≡ iso_name)
  pub to_import : (k : ℕ) → (leads_to ms s ≡ Import k) ↔ (Imported ms s × (symbol_of s ≡ k))
  pub to_definition : (k : ℕ) → (leads_to ms s ≡ Definition (record { 0 = k })) ↔ (Named ms s k × (Imported ms s → ⊥))
  pub to_nothing : (leads_to ms s ≡ Nothing) ↔ ((s ≡ iso_name → ⊥) × (Imported ms s → ⊥) × ((k : ℕ) → Named ms s k → ⊥))

-- definition j is the object whose OID is that of object k less its last number
abbrev pub IsParent : Module → ℕ → ℕ → Type 0
IsParent m j k =
    (j < length m.definitions) × (is_object (at m j) ≡ true) × (is_object (at m k) ≡ true)
    × (last : ℕ) × (oid_of m k ≡ oid_of m j ++ (last ∷ []))

pub record Searches : Type 0 where
  -- "exactly one row"
  pub one_row : (m : Module) (type : ℕ) → (has_one_row m.definitions type ≡ true) ↔ ((r : ℕ) × OneRow m type r)
  -- the parent of a definition, by its number, counted from 1, where no token breaks rule 15
  pub parents : (ms : List Meaning) → ((i : ℕ) → ModuleBreach ms 15 i → ⊥) → (k j : ℕ) → k < definition_count ms
      → (parent (module_of ms) k ≡ suc j) ↔ IsParent (module_of ms) j k
  -- 12 knows of no bound: however far the heads are followed
  pub never_reached : (m : Module) (k : ℕ) → ((unreached m).breach k ≡ true) ↔ ((has_value (at m k) ≡ true) × (Reaches m (name_of k) → ⊥))
  -- what has an OID is what reaches a built-in name
  pub has_oid : (m : Module) (l : Lead) → ((oid : List ℕ) × HasOid m l oid) ↔ Reaches m l
  -- an import that is no built-in symbol has none
  pub no_symbol : (m : Module) (k : ℕ) (oid : List ℕ) → symbol_count ≤ k → HasOid m (Import k) oid → ⊥
  -- a name leads to a symbol only where it is imported from a module that offers it
  pub offered : (ms : List Meaning) (s : List ℕ) (k : ℕ) → leads_to ms s ≡ Import k
      → (i : ℕ) × (is_import (classes_of ms) i ≡ true) × (spelled ms i ≡ s) × Offers ms i
  -- names, where 9 and 10 are kept
  pub leads : (ms : List Meaning) → ((i : ℕ) → ModuleBreach ms 9 i → ⊥) → ((i : ℕ) → ModuleBreach ms 10 i → ⊥)
      → (s : List ℕ) → LeadsPlainly ms s
