-- The value of each token, and the module when its names are known. `ms` is what the tokens say, `cs` are their classes.
-- Assumes nothing.
use Rattle.std.specs.Prelude.{Bool, true, false, cond, ◌&&◌, ◌||◌, List, [], ◌∷◌, ℕ, zero, suc, leb, nat_abs, length}
use Rattle.token.specs.Token.{Meaning}
use Rattle.token.specs.Cut.{said}
use Rattle.module_table.specs.Lead.{word_of}
use Rattle.module_table.specs.Module.{Module}
use Rattle.name_kind.specs.Need.{need_at}
use Rattle.name_kind.specs.declared.need.Need.{Need}
use Rattle.name_kind.specs.declared.need.Need.TheVariants.{NoName, Macro, TypeName, ObjectType, Head, Object, Sequence}
use Rattle.outline.specs.Outline.{outline}
use Rattle.scope.specs.Token.{classes_of, spelled}
use Rattle.scope.specs.Import.{imports_end, is_import}
use Rattle.scope.specs.Lead.{leads_to}

-- it is a use of a name
abbrev pub is_name_need : Need → Bool
is_name_need NoName = false
is_name_need Macro = true
is_name_need TypeName = true
is_name_need ObjectType = true
is_name_need Head = true
is_name_need Object = true
is_name_need Sequence = true

-- token i is used as a name: as an imported symbol, or behind the imports
unfoldable pub is_use : List ℕ → ℕ → Bool
is_use cs i = is_import cs i || (leb (imports_end cs) i && is_name_need (need_at cs i))

-- the value of token i: of a name in use what it leads to, as a word; of a number its magnitude; and 0 of any other, whose number is 0
abbrev pub value_at : List Meaning → ℕ → ℕ
value_at ms i = cond (is_use (classes_of ms) i) (word_of (leads_to ms (spelled ms i))) (nat_abs (said ms i).value)

-- those of n tokens from i on
unfoldable pub values_from : List Meaning → ℕ → ℕ → List ℕ
values_from ms i zero = []
values_from ms i (suc n) = value_at ms i ∷ values_from ms (suc i) n

-- the values of all tokens
abbrev pub values_of : List Meaning → List ℕ
values_of ms = values_from ms 0 (length ms)

-- the module when its names are known
abbrev pub named : List Meaning → Module
named ms = record {
  classes = classes_of ms;
  values = values_of ms;
  definitions = outline (classes_of ms);
  numbers = [];
}
