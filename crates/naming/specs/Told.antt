-- The answers of the code, said of the rules and of the values.
-- Assumes nothing.
use Rattle.std.specs.Prelude.{◌≡◌, ◌⊎◌, true, false, cond, not, ◌&&◌, List, ℕ, ◌*◌, ◌≤◌, ◌<◌, length, get_or, take, nat_abs, Option, None, Some, Result, Ok, Err}
use Rattle.index.specs.First.{any}
use Rattle.rule.specs.declared.Finding.{Finding}
use Rattle.rule.specs.Rule.{Judgement}
use Rattle.lexicon.specs.Word.{same, is_name}
use Rattle.token.specs.Cut.{said}
use Rattle.definition.specs.Landmark.{class_at}
use Rattle.token.specs.Token.{Meaning}
use Rattle.symbol.specs.Symbol.{iso_name}
use Rattle.module_table.specs.Definition.{width, definitions_in}
use Rattle.module_table.specs.declared.Lead.{Lead}
use Rattle.module_table.specs.declared.Lead.TheVariants.{Iso, Import, Definition, Nothing}
use Rattle.outline.specs.Outline.{outline}
use Rattle.scope.specs.Token.{classes_of, spelled}
use Rattle.scope.specs.Import.{imports_end, is_import, source, offered}
use Rattle.scope.specs.Held.{import_word}
use Rattle.naming.specs.Rules.{introduces_name, offer_clause}
use Rattle.naming.specs.Values.{value_at, values_of}

-- what the rules on names say of a module: all are kept, and there are so many definitions; or one is broken
abbrev pub Names : Type 0
Names = Result ℕ Finding

-- how token i, which introduces a name, stands to those before it: the name is new; or it is `iso`, or a token before it that
-- introduces it is told
abbrev pub Introduces : List Meaning → ℕ → Option ℕ → Type 0
Introduces ms i None = (same (spelled ms i) iso_name ≡ false) × (any (introduces_name ms (spelled ms i)) 0 i ≡ false)
Introduces ms i (Some j) =
    ((same (spelled ms i) iso_name ≡ true) × (j ≡ i)) ⊎ ((j < i) × (introduces_name ms (spelled ms i) j ≡ true))

-- token i of the imports: its value, or none where its module doesn't offer it
abbrev pub offer_at : List Meaning → ℕ → Option ℕ
offer_at ms i = cond (is_import (classes_of ms) i && not (offered ms i)) None (Some (import_word ms i))

-- what there is to say of token i, an import that its module doesn't offer
abbrev pub missing : List Meaning → ℕ → Finding
missing ms i = record {
  number = 10;
  clause = offer_clause ms (source (classes_of ms) i);
  token = record { 0 = i };
  other = record { 0 = source (classes_of ms) i };
}

-- where rule 10 is kept, the values of the imports are those of the symbols
abbrev pub ImportsFilled : List Meaning → Judgement → List ℕ → Type 0
ImportsFilled ms (Ok _) values = (i : ℕ) → i < imports_end (classes_of ms) → get_or values i 0 ≡ import_word ms i
ImportsFilled ms (Err f) values = Unit {0}

-- the number of a use that isn't known in the kind needed, by what its name leads to: 41 where that is nothing
abbrev pub lead_number : Lead → ℕ
lead_number Iso = 42
lead_number (Import k) = 42
lead_number (Definition r) = 42
lead_number Nothing = 41

-- where 41 and 42 are kept, the values behind the imports are right, and those of the imports as they were
pub record Filled (ms : List Meaning) (old new : List ℕ) : Type 0 where
  pub before : (i : ℕ) → i < imports_end (classes_of ms) → get_or new i 0 ≡ get_or old i 0
  pub behind : (i : ℕ) → imports_end (classes_of ms) ≤ i → i < length new → get_or new i 0 ≡ value_at ms i

abbrev pub UsesFilled : List Meaning → Judgement → List ℕ → List ℕ → Type 0
UsesFilled ms (Ok _) old new = Filled ms old new
UsesFilled ms (Err f) old new = Unit {0}

-- where all rules are kept, the values are those of the tokens
abbrev pub ValuesFilled : List Meaning → Judgement → List ℕ → Type 0
ValuesFilled ms (Ok _) values = values ≡ values_of ms
ValuesFilled ms (Err f) values = Unit {0}

-- what there is to say of a rule that has one clause and is about one thing
abbrev pub plain : ℕ → ℕ → Finding
plain number i = record { number = number; clause = 0; token = record { 0 = i }; other = record { 0 = i } }

-- what the call answers, as a judgement of the rules
abbrev pub judgement : Names → Judgement
judgement (Ok count) = Ok tt
judgement (Err f) = Err f

-- where all rules are kept, so many definitions are the module's, and the values those of its tokens
abbrev pub Holds : List Meaning → Names → List ℕ → List ℕ → Type 0
Holds ms (Ok count) values definitions =
    (values ≡ values_of ms)
    × (count ≡ length (outline (classes_of ms)))
    × (definitions_in (take (count * width) definitions) ≡ outline (classes_of ms))
Holds ms (Err f) values definitions = Unit {0}

-- the tokens of the imports that are no names have their numbers, and all others are as they were
pub record NumbersFilled (ms : List Meaning) (old new : List ℕ) : Type 0 where
  pub number : (i : ℕ) → i < imports_end (classes_of ms) → is_name (class_at (classes_of ms) i) ≡ false
      → get_or new i 0 ≡ nat_abs (said ms i).value
  pub named : (i : ℕ) → is_name (class_at (classes_of ms) i) ≡ true → get_or new i 0 ≡ get_or old i 0
  pub behind : (i : ℕ) → imports_end (classes_of ms) ≤ i → get_or new i 0 ≡ get_or old i 0
