-- Where names are introduced, and what a name leads to.
-- Assumes nothing.
use Rattle.std.specs.Prelude.{Bool, ◌&&◌, ◌||◌, List, ℕ, ltb, length, get_or}
use Rattle.index.specs.Choice.{when◌then◌else◌}
use Rattle.index.specs.First.{first, any}
use Rattle.lexicon.specs.Word.{same}
use Rattle.token.specs.Token.{Meaning}
use Rattle.symbol.specs.Symbol.{iso_name, symbol_of}
use Rattle.definition.specs.Landmark.{begins, definitions}
use Rattle.module_table.specs.declared.Lead.{Lead}
use Rattle.module_table.specs.declared.Lead.TheVariants.{Iso, Import, Definition, Nothing}
use Rattle.scope.specs.Token.{classes_of, spelled}
use Rattle.scope.specs.Import.{imports_end, is_import, offered}

-- token i introduces a name: it is an imported symbol, or the name of a definition
unfoldable pub introduces : List ℕ → ℕ → Bool
introduces cs i = is_import cs i || begins cs i

-- token i is an imported symbol of this name
abbrev pub imports_name : List Meaning → List ℕ → ℕ → Bool
imports_name ms s i = is_import (classes_of ms) i && same (spelled ms i) s

-- a symbol of this name is imported
abbrev pub is_imported : List Meaning → List ℕ → Bool
is_imported ms s = any (imports_name ms s) 0 (imports_end (classes_of ms))

-- the module named offers it
abbrev pub is_offered : List Meaning → List ℕ → Bool
is_offered ms s = any (λ (i : ℕ). imports_name ms s i && offered ms i) 0 (imports_end (classes_of ms))

-- definition k has this name
abbrev pub defines_name : List Meaning → List ℕ → ℕ → Bool
defines_name ms s k = same (spelled ms (get_or (definitions (classes_of ms)) k 0)) s

-- the first definition of this name, by its index among the definitions; their number where none has it
abbrev pub defined_as : List Meaning → List ℕ → ℕ
defined_as ms s = first (defines_name ms s) 0 (length (definitions (classes_of ms)))

-- a name leads to `iso`; to the built-in symbol that is imported by it, and to nothing if the module named doesn't offer it; to the
-- definition of that name; or to nothing
unfoldable pub leads_to : List Meaning → List ℕ → Lead
leads_to ms s =
    when same s iso_name then Iso
    else when is_imported ms s then (when is_offered ms s then Import (symbol_of s) else Nothing)
    else when ltb (defined_as ms s) (length (definitions (classes_of ms))) then Definition (record { 0 = defined_as ms s })
    else Nothing
