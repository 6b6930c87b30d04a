-- Tags of names, and the names of a module's definitions laid into words: what the look-up compares before it looks at spellings.
-- Assumes nothing.
use Rattle.std.specs.Prelude.{◌≡◌, List, ℕ, ◌+◌, ◌-◌, ◌*◌, ◌%◌, ◌<◌, length, get_or}
use Rattle.token.specs.Token.{Meaning}
use Rattle.definition.specs.Landmark.{definitions}
use Rattle.lexicon.specs.Word.{between, Within}
use Rattle.scope.specs.Token.{classes_of, spelled}
use Rattle.scope.specs.declared.Sought.{Sought}

-- how many words a name has
abbrev pub name_words : ℕ
name_words = 2

-- the tag of a name: its length and its last three bytes. Names that are the same have the same tag; of names of up to three bytes none
-- that differ have
unfoldable pub name_tag : List ℕ → ℕ
name_tag s =
    length s % 256 * 16777216 + get_or s (length s - 1) 0 * 65536 + get_or s (length s - 2) 0 * 256 + get_or s (length s - 3) 0

-- the words hold the names of the definitions: of each its tag, and its token
pub record NamesHeld (ms : List Meaning) (names : List ℕ) : Type 0 where
  pub counted : length names ≡ length (definitions (classes_of ms)) * name_words
  pub tag : (k : ℕ) → k < length (definitions (classes_of ms))
      → get_or names (k * name_words) 0 ≡ name_tag (spelled ms (get_or (definitions (classes_of ms)) k 0))
  pub token : (k : ℕ) → k < length (definitions (classes_of ms))
      → get_or names (k * name_words + 1) 0 ≡ get_or (definitions (classes_of ms)) k 0

-- what is sought is a part of the text, with its tag
pub record SoughtIn (text : List ℕ) (sought : Sought) : Type 0 where
  pub within : Within text sought.name.start sought.name.end
  pub tagged : sought.tag ≡ name_tag (between text sought.name.start sought.name.end)
