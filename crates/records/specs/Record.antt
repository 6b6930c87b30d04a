-- The records: document 01, "Records". `starts` and `ends` are where each token starts and ends.
-- Assumes nothing.
use Rattle.std.specs.Prelude.{Bool, cond, ◌||◌, List, [], ◌∷◌, ◌++◌, ℕ, zero, suc, ◌-◌, ◌<◌, ltb, eqb, length, get_or}
use Rattle.definition.specs.Landmark.{object, convention}
use Rattle.definition.specs.Fields.{span}
use Rattle.definition.specs.declared.Span.{Span}
use Rattle.module_table.specs.declared.Definition.{Definition}
use Rattle.module_table.specs.Definition.{entry}

-- the bytes from the first token of a span to its last: where they start, and how many there are; 0 and 0 where it has no tokens
unfoldable pub offset_in : List ℕ → Span → ℕ
offset_in starts s = cond (ltb s.from s.to) (get_or starts s.from 0) 0

unfoldable pub length_in : List ℕ → List ℕ → Span → ℕ
length_in starts ends s = cond (ltb s.from s.to) (get_or ends (s.to - 1) 0 - get_or starts s.from 0) 0

-- a definition of this kind has a syntax and a class: kinds 4 and 5 only
abbrev pub has_syntax : ℕ → Bool
has_syntax kind = eqb kind object || eqb kind convention

-- the syntax without the word SYNTAX; none where the kind has no syntax
abbrev pub syntax_tokens : Definition → Span
syntax_tokens d = cond (has_syntax d.kind) d.syntax (span 0 0)

-- one more than the most that a word of 32 bits holds
abbrev pub word_limit : ℕ
word_limit = 4294967296

-- words of 32 bits hold the numbers of a definition that its record has
pub record Fits (d : Definition) : Type 0 where
  pub kind_fits : d.kind < word_limit
  pub start_fits : d.start.0 < word_limit
  pub count_fits : d.count < word_limit
  pub access_fits : d.access < word_limit
  pub status_fits : d.status < word_limit
  pub class_fits : d.class < word_limit

-- those of each definition
abbrev pub AllFit : List Definition → Type 0
AllFit ds = (k : ℕ) → k < length ds → Fits (entry ds k)

-- how many words a record has
abbrev pub record_width : ℕ
record_width = 10

-- the record of a definition: kind; name's offset and length; first index and count of its sub-identifiers; offset and length of its
-- syntax; access; status; class. Absent fields are 0
unfoldable pub record_of : List ℕ → List ℕ → Definition → List ℕ
record_of starts ends d =
    d.kind
    ∷ get_or starts d.name.0 0
    ∷ (get_or ends d.name.0 0 - get_or starts d.name.0 0)
    ∷ d.start.0
    ∷ d.count
    ∷ offset_in starts (syntax_tokens d)
    ∷ length_in starts ends (syntax_tokens d)
    ∷ d.access
    ∷ d.status
    ∷ d.class
    ∷ []

-- the records of the first k definitions, one after the other
unfoldable pub records_before : List ℕ → List ℕ → List Definition → ℕ → List ℕ
records_before starts ends ds zero = []
records_before starts ends ds (suc k) = records_before starts ends ds k ++ record_of starts ends (entry ds k)
