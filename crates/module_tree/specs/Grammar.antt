-- The grammar of document 01 with its parts marked: where definitions, their fields and their OIDs' numbers stand, where imports
-- stand, and where a name is used as what. Without the marks it is the grammar, line by line.
-- Assumes nothing.
use Rattle.std.specs.Prelude.{[], ◌∷◌, ℕ, get_or}
use Rattle.grammar.specs.Rule.{Rule, token, ◌⨾◌, ◌or◌, optional, zero_or_more}
use Rattle.grammar.specs.Grammar.{lower, Upper, text, macro_word, enum, ranges, sizes, braced, value}
use Rattle.terminal.specs.Terminal.{number, left_paren, right_paren, comma, semicolon, assign, current, deprecated, obsolete, not_accessible, accessible_for_notify, read_only, read_write, read_create, AUGMENTS, BEGIN, BITS, CONTACT-INFO, DEFINITIONS, DEFVAL, DESCRIPTION, DISPLAY-HINT, END, FROM, IDENTIFIER, IMPLIED, IMPORTS, INDEX, INTEGER, LAST-UPDATED, MAX-ACCESS, MODULE-IDENTITY, NOTIFICATION-TYPE, OBJECT, OBJECT-IDENTITY, OBJECT-TYPE, OBJECTS, OCTET, OF, ORGANIZATION, REFERENCE, REVISION, SEQUENCE, STATUS, STRING, SYNTAX, TEXTUAL-CONVENTION, UNITS}
use Rattle.definition.specs.Landmark as kind
use Rattle.name_kind.specs.declared.need.Need.{Need}
use Rattle.name_kind.specs.declared.need.Need.TheVariants.{NoName, Macro, TypeName, ObjectType, Head, Object, Sequence}
use Rattle.module_tree.specs.Marked.{Marked, word, ◌then◌, ◌either◌, steps, mark, plain, optionally, many, listed, in_braces}

-- The families of marks.

-- a definition, by its kind
abbrev pub definition : ℕ
definition = 1

-- the name of a definition, by its kind; and END
abbrev pub start : ℕ
start = 2

abbrev pub the_end : ℕ
the_end = 8

-- a name that is used, by what it is used as
abbrev pub used : ℕ
used = 3

-- a status word and an access word, by their numbers in "Records"
abbrev pub status : ℕ
status = 4

abbrev pub access : ℕ
access = 5

-- the fields of a definition; the word DEFVAL. In an OID its own numbers have the mark 2
abbrev pub syntax : ℕ
syntax = 6

abbrev pub index : ℕ
index = 7

abbrev pub augments : ℕ
augments = 8

abbrev pub default : ℕ
default = 9

abbrev pub objects : ℕ
objects = 10

abbrev pub columns : ℕ
columns = 11

abbrev pub oid : ℕ
oid = 12

abbrev pub own_number : ℕ
own_number = 2

-- a group of imports; in it the symbols, and the module that they come from
abbrev pub group : ℕ
group = 13

abbrev pub import : ℕ
import = 14

abbrev pub symbol : ℕ
symbol = 1

abbrev pub source : ℕ
source = 2

-- the numbers of what a name is used as
abbrev pub need_number : Need → ℕ
need_number NoName = 0
need_number Macro = 1
need_number TypeName = 2
need_number ObjectType = 3
need_number Head = 4
need_number Object = 5
need_number Sequence = 6

abbrev pub need_of : ℕ → Need
need_of n = get_or (NoName ∷ Macro ∷ TypeName ∷ ObjectType ∷ Head ∷ Object ∷ Sequence ∷ []) n NoName

-- a name that is used as this
abbrev pub use_as : Need → Rule → Marked
use_as need r = mark used (need_number need) (plain r)

-- a definition of this kind: its name, which comes first, and what follows
abbrev pub defines : ℕ → Rule → Marked → Marked
defines k name more = mark definition k (mark start k (plain name) then more)

-- The lines, from the last to the first.

-- 13. status, access
abbrev pub status_word : Marked
status_word = mark status 1 (word current) either mark status 2 (word deprecated) either mark status 3 (word obsolete)

abbrev pub access_word : Marked
access_word =
    mark access 1 (word not_accessible)
    either mark access 2 (word accessible_for_notify)
    either mark access 3 (word read_only)
    either mark access 4 (word read_write)
    either mark access 5 (word read_create)

-- 12. oid: { lower part part* }, its head first
abbrev pub part : Marked
part =
    mark oid own_number (word number)
    either plain lower then word left_paren then mark oid own_number (word number) then word right_paren

abbrev pub oid_braces : Marked
oid_braces = in_braces (mark oid 1 (use_as Head lower then part then many part))

-- 10. ix
abbrev pub ix : Marked
ix = steps (use_as Object lower then word comma) (use_as Object lower either word IMPLIED then use_as Object lower)

-- 8. coltype
abbrev pub coltype : Marked
coltype =
    word INTEGER
    either word OCTET then word STRING
    either word OBJECT then word IDENTIFIER
    either word BITS
    either use_as TypeName Upper

-- 7. simple, in an object or elsewhere
abbrev pub simple : Need → Marked
simple need =
    word INTEGER then optionally (plain (enum or ranges))
    either use_as need Upper then optionally (plain (ranges or sizes))
    either word OCTET then word STRING then optionally (plain sizes)
    either word OBJECT then word IDENTIFIER
    either word BITS then plain enum

-- 6. syntax
abbrev pub object_syntax : Marked
object_syntax = word SEQUENCE then word OF then use_as Sequence Upper either simple ObjectType

-- 5. tail
abbrev pub tail : Marked
tail =
    word STATUS then status_word then word DESCRIPTION then plain text then plain (optional (token REFERENCE ⨾ text))

-- 4. def, six kinds
abbrev pub object_identifier_line : Marked
object_identifier_line =
    defines kind.plain lower (word OBJECT then word IDENTIFIER then word assign then oid_braces)

abbrev pub object_identity_line : Marked
object_identity_line =
    defines kind.object_identity lower (use_as Macro (token OBJECT-IDENTITY) then tail then word assign then oid_braces)

abbrev pub object_type_line : Marked
object_type_line =
    defines kind.object lower
    (use_as Macro (token OBJECT-TYPE)
    then word SYNTAX
    then mark syntax 1 object_syntax
    then plain (optional (token UNITS ⨾ text))
    then word MAX-ACCESS
    then access_word
    then tail
    then optionally
    (word INDEX then in_braces (mark index 1 ix) either word AUGMENTS then in_braces (mark augments 1 (use_as Object lower)))
    then optionally (mark default 1 (word DEFVAL) then plain (braced value))
    then word assign
    then oid_braces)

abbrev pub notification_type_line : Marked
notification_type_line =
    defines kind.notification lower
    (use_as Macro (token NOTIFICATION-TYPE)
    then optionally (word OBJECTS then in_braces (mark objects 1 (listed (use_as Object lower))))
    then tail
    then word assign
    then oid_braces)

abbrev pub textual_convention_line : Marked
textual_convention_line =
    defines kind.convention Upper
    (word assign
    then use_as Macro (token TEXTUAL-CONVENTION)
    then plain (optional (token DISPLAY-HINT ⨾ text))
    then tail
    then word SYNTAX
    then mark syntax 1 (simple TypeName))

abbrev pub sequence_type_line : Marked
sequence_type_line =
    defines kind.sequence_type Upper
    (word assign then word SEQUENCE then in_braces (mark columns 1 (listed (use_as Object lower then coltype))))

abbrev pub def : Marked
def =
    object_identifier_line
    either object_identity_line
    either object_type_line
    either notification_type_line
    either textual_convention_line
    either sequence_type_line

-- 3. identity
abbrev pub identity : Marked
identity =
    defines kind.identity lower
    (use_as Macro (token MODULE-IDENTITY)
    then word LAST-UPDATED
    then plain text
    then word ORGANIZATION
    then plain text
    then word CONTACT-INFO
    then plain text
    then word DESCRIPTION
    then plain text
    then plain (zero_or_more (token REVISION ⨾ text ⨾ token DESCRIPTION ⨾ text))
    then word assign
    then oid_braces)

-- 2. group
abbrev pub import_group : Marked
import_group =
    mark group 1 (listed (mark import symbol (plain (lower or Upper or macro_word))) then word FROM then mark import source (plain Upper))

abbrev pub imports : Marked
imports = optionally (word IMPORTS then import_group then many import_group then word semicolon)

-- 1. module: what stands before the definitions, and the definitions
abbrev pub definitions : Marked
definitions = identity then many def then mark start the_end (word END)

unfoldable pub module_tree : Marked
module_tree = plain Upper then word DEFINITIONS then word assign then word BEGIN then imports then definitions
