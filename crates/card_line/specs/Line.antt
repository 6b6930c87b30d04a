-- The lines of the card: document 01, "The shelf card". `text` is the module's text, `words` are those of one record, and `numbers` is
-- the number buffer.
-- Assumes nothing.
use Rattle.std.specs.Prelude.{List, [], ◌∷◌, ◌++◌, ℕ, ◌+◌, ◌*◌, min, get_or, take, drop, Ok, Err}
use Prim.Native.Char.{code}
use Rattle.lexicon.specs.Word.{bytes, longest_name}
use Rattle.digit.specs.Digits.{digits}
use Rattle.reader.specs.Buffers.{Answer}

-- what stands between the fields of a line, and behind the last
abbrev pub tab : ℕ
tab = 9

abbrev pub line_end : ℕ
line_end = 10

-- a number in decimal, and the byte behind it
unfoldable pub field : ℕ → ℕ → List ℕ
field n behind = digits 10 n ++ behind ∷ []

-- the first line: `accepted` and the count; or `refused`, number, place
unfoldable pub accepted_line : ℕ → List ℕ
accepted_line count = (bytes "accepted" ++ tab ∷ []) ++ field count line_end

unfoldable pub refused_line : ℕ → ℕ → List ℕ
refused_line number place = (bytes "refused" ++ tab ∷ []) ++ (field number tab ++ field place line_end)

abbrev pub head : Answer → List ℕ
head (Ok count) = accepted_line count
head (Err r) = refused_line r.number r.place.0

-- further numbers, each behind a point
unfoldable pub pointed : List ℕ → List ℕ
pointed [] = []
pointed (n ∷ ns) = code "." ∷ digits 10 n ++ pointed ns

-- numbers with points between them, or a hyphen where there are none
unfoldable pub dotted : List ℕ → List ℕ
dotted [] = code "-" ∷ []
dotted (n ∷ ns) = digits 10 n ++ pointed ns

-- a word of a record, by its index in "Records"
abbrev pub kind : List ℕ → ℕ
kind words = get_or words 0 0

abbrev pub access : List ℕ → ℕ
access words = get_or words 7 0

abbrev pub status : List ℕ → ℕ
status words = get_or words 8 0

abbrev pub class : List ℕ → ℕ
class words = get_or words 9 0

-- the most numbers of an OID, by refusal 13
abbrev pub longest_oid : ℕ
longest_oid = 128

-- the bytes of its name, by offset and length: 64 at most, since refusal 5 lets no name have more
abbrev pub name : List ℕ → List ℕ → List ℕ
name text words = take (min (get_or words 2 0) longest_name) (drop (get_or words 1 0) text)

-- the bytes of its syntax, by offset and length
abbrev pub syntax : List ℕ → List ℕ → List ℕ
syntax text words = take (get_or words 6 0) (drop (get_or words 5 0) text)

-- its sub-identifiers, by first index and count: 128 at most
abbrev pub sub_identifiers : List ℕ → List ℕ → List ℕ
sub_identifiers numbers words = take (min (get_or words 4 0) longest_oid) (drop (get_or words 3 0) numbers)

-- a name and a tab; an OID and a tab
unfoldable pub name_field : List ℕ → List ℕ
name_field spelling = spelling ++ tab ∷ []

unfoldable pub oid_field : List ℕ → List ℕ
oid_field numbers = dotted numbers ++ tab ∷ []

-- a record's line: kind, name, dotted OID or `-`; then class, access, status
unfoldable pub definition_fields : List ℕ → List ℕ → List ℕ → List ℕ
definition_fields text words numbers =
    field (kind words) tab ++ (name_field (name text words) ++ oid_field (sub_identifiers numbers words))

unfoldable pub attribute_fields : List ℕ → List ℕ
attribute_fields words = field (class words) tab ++ (field (access words) tab ++ field (status words) line_end)

unfoldable pub record_line : List ℕ → List ℕ → List ℕ → List ℕ
record_line text words numbers = definition_fields text words numbers ++ attribute_fields words

-- room that is enough: for a field, 20 digits and a byte; for the first line, its word, a tab and two fields; for a
-- sub-identifier, ten digits; for an OID, a point and a sub-identifier for each; and for the line of a record
abbrev pub field_room : ℕ
field_room = 21

abbrev pub head_room : ℕ
head_room = 9 + 2 * field_room

abbrev pub number_room : ℕ
number_room = 10

abbrev pub pointed_room : ℕ → ℕ
pointed_room count = (1 + number_room) * count

abbrev pub oid_room : ℕ
oid_room = pointed_room longest_oid

abbrev pub definition_room : ℕ
definition_room = field_room + (longest_name + 1 + (oid_room + 1))

abbrev pub attributes_room : ℕ
attributes_room = 3 * field_room

abbrev pub line_room : ℕ
line_room = definition_room + attributes_room
