-- What the look-up of a name is lent: where the tokens stand, the values of the imports, and the names of the definitions.
-- Assumes nothing.
use Rattle.std.specs.Prelude.{◌≡◌, true, cond, List, ℕ, ◌<◌, length, get_or}
use Rattle.token.specs.Token.{Meaning}
use Rattle.token.specs.Cut.{meanings_in}
use Rattle.symbol.specs.Symbol.{symbol_of}
use Rattle.definition.specs.Landmark.{definitions}
use Rattle.module_table.specs.Lead.{word_of}
use Rattle.module_table.specs.declared.Lead.TheVariants.{Import}
use Rattle.scope.specs.Token.{classes_of, spelled, TokensHeld}
use Rattle.scope.specs.Import.{imports_end, is_import, offered}
use Rattle.scope.specs.Lead.{is_imported, defines_name}
use Rattle.scope.specs.Tag.{NamesHeld}

-- the value of token i of the imports: what the symbol there leads to, as a word; 0 where it is no symbol
abbrev pub import_word : List Meaning → ℕ → ℕ
import_word ms i = cond (is_import (classes_of ms) i) (word_of (Import (symbol_of (spelled ms i)))) 0

-- what a name of the imports leads to, as a word; 0 where no symbol of this name is imported
abbrev pub found_word : List Meaning → List ℕ → ℕ
found_word ms s = cond (is_imported ms s) (word_of (Import (symbol_of s))) 0

-- each import is offered by the module named: what refusal 10 asks
abbrev pub AllOffered : List Meaning → Type 0
AllOffered ms = (i : ℕ) → is_import (classes_of ms) i ≡ true → offered ms i ≡ true

-- the values of the imports of a module, which are all offered
pub record ImportsHeld (ms : List Meaning) (values : List ℕ) : Type 0 where
  pub offers : AllOffered ms
  pub counted : length values ≡ imports_end (classes_of ms)
  pub held : (i : ℕ) → i < length values → get_or values i 0 ≡ import_word ms i

-- at most one definition has a name: what refusal 9 asks
abbrev pub Distinct : List Meaning → Type 0
Distinct ms =
    (s : List ℕ) (i j : ℕ) → i < length (definitions (classes_of ms)) → j < length (definitions (classes_of ms)) → defines_name ms s i ≡ true
    → defines_name ms s j ≡ true → i ≡ j

-- all that a look-up is lent
pub record ScopeHeld (text starts ends values names : List ℕ) : Type 0 where
  pub tokens : TokensHeld text (classes_of (meanings_in text)) starts ends
  pub imports : ImportsHeld (meanings_in text) values
  pub definitions : NamesHeld (meanings_in text) names
  pub distinct : Distinct (meanings_in text)
