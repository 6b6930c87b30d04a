-- The words of the grammar: the capital words, and the status and access words. One table serves the code and the definition.
-- Assumes nothing.
use Rattle.std.specs.Prelude.{Option, None, Some, Bool, true, false, cond, ◌&&◌, ◌≡◌, List, [], ◌∷◌, ◌++◌, map, ℕ, suc, ◌+◌, ◌-◌, ◌*◌, ◌%◌, ◌≤◌, ◌<◌, eqb, leb, ltb, length, get_or, take, drop}
use Prim.Native.Char.{code}
use Prim.Native.String.{String, [] as none, ◌∷◌ as char-and}
use Rattle.index.specs.Choice.{when◌then◌else◌}
use Rattle.terminal.specs.Terminal.{AUGMENTS, BEGIN, BITS, CONTACT-INFO, DEFINITIONS, DEFVAL, DESCRIPTION, DISPLAY-HINT, END, FROM, IDENTIFIER, IMPLIED, IMPORTS, INDEX, INTEGER, LAST-UPDATED, MAX-ACCESS, MODULE-IDENTITY, NOTIFICATION-TYPE, OBJECT, OBJECT-IDENTITY, OBJECT-TYPE, OBJECTS, OCTET, OF, ORGANIZATION, REFERENCE, REVISION, SEQUENCE, SIZE, STATUS, STRING, SYNTAX, TEXTUAL-CONVENTION, UNITS, current, deprecated, obsolete, not_accessible, accessible_for_notify, read_only, read_write, read_create, lower, Upper, terminals, first_word, word_count}
use Rattle.lexicon.specs.Byte.{class_of, capital_hex}

-- a word's spelling and its class
pub record Word : Type 0 where
  pub spelling : List ℕ
  pub class : ℕ

-- the bytes of a text
unfoldable pub bytes : String → List ℕ
bytes none = []
bytes (char-and c cs) = code c ∷ bytes cs

unfoldable pub word : String → ℕ → Word
word s c = record { spelling = bytes s; class = c }

-- the words, in the order of the terminals
unfoldable pub word_table : List Word
word_table =
    word "current" current
    ∷ word "deprecated" deprecated
    ∷ word "obsolete" obsolete
    ∷ word "not-accessible" not_accessible
    ∷ word "accessible-for-notify" accessible_for_notify
    ∷ word "read-only" read_only
    ∷ word "read-write" read_write
    ∷ word "read-create" read_create
    ∷ word "AUGMENTS" AUGMENTS
    ∷ word "BEGIN" BEGIN
    ∷ word "BITS" BITS
    ∷ word "CONTACT-INFO" CONTACT-INFO
    ∷ word "DEFINITIONS" DEFINITIONS
    ∷ word "DEFVAL" DEFVAL
    ∷ word "DESCRIPTION" DESCRIPTION
    ∷ word "DISPLAY-HINT" DISPLAY-HINT
    ∷ word "END" END
    ∷ word "FROM" FROM
    ∷ word "IDENTIFIER" IDENTIFIER
    ∷ word "IMPLIED" IMPLIED
    ∷ word "IMPORTS" IMPORTS
    ∷ word "INDEX" INDEX
    ∷ word "INTEGER" INTEGER
    ∷ word "LAST-UPDATED" LAST-UPDATED
    ∷ word "MAX-ACCESS" MAX-ACCESS
    ∷ word "MODULE-IDENTITY" MODULE-IDENTITY
    ∷ word "NOTIFICATION-TYPE" NOTIFICATION-TYPE
    ∷ word "OBJECT" OBJECT
    ∷ word "OBJECT-IDENTITY" OBJECT-IDENTITY
    ∷ word "OBJECT-TYPE" OBJECT-TYPE
    ∷ word "OBJECTS" OBJECTS
    ∷ word "OCTET" OCTET
    ∷ word "OF" OF
    ∷ word "ORGANIZATION" ORGANIZATION
    ∷ word "REFERENCE" REFERENCE
    ∷ word "REVISION" REVISION
    ∷ word "SEQUENCE" SEQUENCE
    ∷ word "SIZE" SIZE
    ∷ word "STATUS" STATUS
    ∷ word "STRING" STRING
    ∷ word "SYNTAX" SYNTAX
    ∷ word "TEXTUAL-CONVENTION" TEXTUAL-CONVENTION
    ∷ word "UNITS" UNITS
    ∷ []

-- the words' spellings
unfoldable pub words : List (List ℕ)
words = map (λ (w : Word). w.spelling) word_table

-- the words' classes
unfoldable pub word_classes : List ℕ
word_classes = map (λ (w : Word). w.class) word_table

-- the bytes of a text from start up to end
abbrev pub between : List ℕ → ℕ → ℕ → List ℕ
between text start end = take (end - start) (drop start text)

-- the bytes from start up to end lie in the text
pub record Within (text : List ℕ) (start end : ℕ) : Type 0 where
  pub ordered : start ≤ end
  pub inside : end ≤ length text

-- the largest name, in bytes
abbrev pub longest_name : ℕ
longest_name = 64

-- two spellings are the same, byte for byte
unfoldable pub same : List ℕ → List ℕ → Bool
same [] [] = true
same [] (y ∷ ys) = false
same (x ∷ xs) [] = false
same (x ∷ xs) (y ∷ ys) = eqb x y && same xs ys

-- the place of a spelling in a list of words: that of the first word that is the same, or the list's length where none is
unfoldable pub place_in : List ℕ → List (List ℕ) → ℕ
place_in s [] = 0
place_in s (w ∷ ws) = cond (same s w) 0 (suc (place_in s ws))

-- a place among n, if it is one
abbrev pub some_place : ℕ → ℕ → Option ℕ
some_place n place = when ltb place n then Some place else None

-- the words' spellings, one after the other
unfoldable pub joined : List (List ℕ) → List ℕ
joined [] = []
joined (w ∷ ws) = w ++ joined ws

-- where the word at k starts among the joined spellings
abbrev pub start_of : List (List ℕ) → ℕ → ℕ
start_of ws k = length (joined (take k ws))

-- how many slots the look-up of words has
abbrev pub slot_count : ℕ
slot_count = 128

-- the slot of a name with this first byte, last byte and length: the hash by which the code looks words up
abbrev pub slot : ℕ → ℕ → ℕ → ℕ
slot first last size = (5 * first + 3 * last + 7 * size) % slot_count

-- the slot of a spelling
abbrev pub slot_of : List ℕ → ℕ
slot_of s = slot (get_or s 0 0) (get_or s (length s - 1) 0) (length s)

-- a token of this class is a name: lower, Upper and the words are
abbrev pub is_name : ℕ → Bool
is_name class = leb lower class

-- the class of a name: a word's own; else Upper where the first letter is upper-case, and lower where it is lower-case
unfoldable pub name_class : List ℕ → ℕ
name_class s =
    when ltb (place_in s words) word_count then get_or word_classes (place_in s words) 0
    else when leb capital_hex (class_of (get_or s 0 0)) then Upper
    else lower

-- a slot of the code holds this class: that of every word of the slot (there is one at most), or else no more than a class
pub record SlotWord (slot class : ℕ) : Type 0 where
  pub few : class < terminals
  pub own : (k : ℕ) → k < word_count → slot_of (get_or words k []) ≡ slot → class ≡ first_word + k

-- how many bytes the row of a word has: one for its length, and as many as the longest word
abbrev pub row_width : ℕ
row_width = 22

-- where the row of the word at k starts, behind the slots
abbrev pub row_start : ℕ → ℕ
row_start k = slot_count + row_width * k

-- how many bytes the table of the look-up has: the slots, and a row for each word
abbrev pub lookup_size : ℕ
lookup_size = row_start word_count

-- a table holds the class of each slot's word, and each word's row: its length, then its spelling
pub record LookupTable (table : List ℕ) : Type 0 where
  pub long : length table ≡ lookup_size
  pub slots : (slot : ℕ) → slot < slot_count → SlotWord slot (get_or table slot 0)
  pub sizes : (k : ℕ) → k < word_count → get_or table (row_start k) 0 ≡ length (get_or words k [])
  pub spellings : (k : ℕ) → k < word_count
      → take (length (get_or words k [])) (drop (row_start k + 1) table) ≡ get_or words k []
