-- The imports of a module. `cs` are the classes of its tokens in order, `ms` what they say.
-- Assumes nothing.
use Rattle.std.specs.Prelude.{Bool, cond, not, ◌&&◌, ◌||◌, List, ℕ, suc, ◌-◌, min, leb, ltb, eqb, length}
use Rattle.terminal.specs.Terminal.{Upper, semicolon, FROM, IMPORTS}
use Rattle.lexicon.specs.Word.{same}
use Rattle.token.specs.Token.{Meaning}
use Rattle.symbol.specs.Symbol.{symbol_of, symbol_count, module_name}
use Rattle.definition.specs.Landmark.{class_at, is_lower, is_macro}
use Rattle.definition.specs.Fields.{find}
use Rattle.scope.specs.Token.{classes_of, spelled}

-- a module starts: Upper DEFINITIONS ::= BEGIN, and then IMPORTS if it has imports. The first of them stands here
abbrev pub imports_start : ℕ
imports_start = 5

-- where the imports end: at `;`, and where they would start in a module that has none
unfoldable pub imports_end : List ℕ → ℕ
imports_end cs =
    cond (eqb (class_at cs (imports_start - 1)) IMPORTS) (find cs semicolon imports_start (length cs)) (min imports_start (length cs))

-- a token of this class can be imported: a lower, an Upper or a macro word
unfoldable pub can_be_imported : ℕ → Bool
can_be_imported class = eqb class Upper || is_lower class || is_macro class

-- a token of the imports is a symbol, and not the module that stands after FROM
unfoldable pub is_symbol : List ℕ → ℕ → Bool
is_symbol cs i = not (eqb (class_at cs (i - 1)) FROM) && can_be_imported (class_at cs i)

-- token i is an imported symbol
unfoldable pub is_import : List ℕ → ℕ → Bool
is_import cs i = (leb imports_start i && ltb i (imports_end cs)) && is_symbol cs i

-- the module that the symbol at token i is imported from: the token after the next FROM
unfoldable pub source : List ℕ → ℕ → ℕ
source cs i = suc (find cs FROM i (length cs))

-- the module named offers the symbol at token i
unfoldable pub offered : List Meaning → ℕ → Bool
offered ms i =
    ltb (symbol_of (spelled ms i)) symbol_count
    && same (spelled ms (source (classes_of ms) i)) (module_name (symbol_of (spelled ms i)))
