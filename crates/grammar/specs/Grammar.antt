-- The grammar of document 01, "Grammar": its thirteen lines, in its order and in its words. A line that names others, which the
-- paper prints further down, takes them as parameters; the end of the file gives each line those it names.
-- Assumes nothing.
use Rattle.grammar.specs.Rule.{Rule, token, ◌⨾◌, ◌or◌, repeated, optional, zero_or_more, parted}
use Rattle.terminal.specs.Terminal.{AUGMENTS, BEGIN, BITS, CONTACT-INFO, DEFINITIONS, DEFVAL, DESCRIPTION, DISPLAY-HINT, END, FROM, IDENTIFIER, IMPLIED, IMPORTS, INDEX, INTEGER, LAST-UPDATED, MAX-ACCESS, MODULE-IDENTITY, NOTIFICATION-TYPE, OBJECT, OBJECT-IDENTITY, OBJECT-TYPE, OBJECTS, OCTET, OF, ORGANIZATION, REFERENCE, REVISION, SEQUENCE, SIZE, STATUS, STRING, SYNTAX, TEXTUAL-CONVENTION, UNITS, current, deprecated, obsolete, not_accessible, accessible_for_notify, read_only, read_write, read_create, assign, dots, left_brace, right_brace, left_paren, right_paren, comma, semicolon, bar}
use Rattle.terminal.specs.Terminal.{lower as other-lower, Upper as upper-name, number as non_negative, negative, text as text_token, hex as hex-token}

-- The classes of tokens, from "Tokens".

-- lower: each status word and each access word is one too
abbrev pub lower : Rule
lower =
    token other-lower
    or token current
    or token deprecated
    or token obsolete
    or token not_accessible
    or token accessible_for_notify
    or token read_only
    or token read_write
    or token read_create

-- Upper: the capital words of the grammar are none
abbrev pub Upper : Rule
Upper = token upper-name

-- number: negative or not
abbrev pub number : Rule
number = token non_negative or token negative

-- text
abbrev pub text : Rule
text = token text_token

-- hex
abbrev pub hex : Rule
hex = token hex-token

-- What the lines are written with: `[ ]` and `*` are `optional` and `zero_or_more`.

-- `list x` is x parted by commas, at least one
abbrev pub list : Rule → Rule
list x = parted (token comma) x

-- `{ x }`
abbrev pub braced : Rule → Rule
braced x = token left_brace ⨾ x ⨾ token right_brace

-- `( x )`
abbrev pub bracketed : Rule → Rule
bracketed x = token left_paren ⨾ x ⨾ token right_paren

-- Macro words: the five macros above.
abbrev pub macro_word : Rule
macro_word =
    token MODULE-IDENTITY
    or token OBJECT-IDENTITY
    or token OBJECT-TYPE
    or token NOTIFICATION-TYPE
    or token TEXTUAL-CONVENTION

-- 1. module: Upper DEFINITIONS ::= BEGIN [IMPORTS group group* ;] identity def* END, then the end of the text
abbrev pub module_line : (group identity def : Rule) → Rule
module_line group identity def =
    Upper
    ⨾ token DEFINITIONS
    ⨾ token assign
    ⨾ token BEGIN
    ⨾ optional (token IMPORTS ⨾ group ⨾ zero_or_more group ⨾ token semicolon)
    ⨾ identity
    ⨾ zero_or_more def
    ⨾ token END

-- 2. group: list (lower, Upper or macro word) FROM Upper
abbrev pub group : Rule
group = list (lower or Upper or macro_word) ⨾ token FROM ⨾ Upper

-- 3. identity: lower MODULE-IDENTITY LAST-UPDATED text ORGANIZATION text CONTACT-INFO text DESCRIPTION text
-- (REVISION text DESCRIPTION text)* ::= oid
abbrev pub identity_line : (oid : Rule) → Rule
identity_line oid =
    lower
    ⨾ token MODULE-IDENTITY
    ⨾ token LAST-UPDATED
    ⨾ text
    ⨾ token ORGANIZATION
    ⨾ text
    ⨾ token CONTACT-INFO
    ⨾ text
    ⨾ token DESCRIPTION
    ⨾ text
    ⨾ zero_or_more (token REVISION ⨾ text ⨾ token DESCRIPTION ⨾ text)
    ⨾ token assign
    ⨾ oid

-- 4. def, six kinds:
-- lower OBJECT IDENTIFIER ::= oid
abbrev pub object_identifier_line : (oid : Rule) → Rule
object_identifier_line oid = lower ⨾ token OBJECT ⨾ token IDENTIFIER ⨾ token assign ⨾ oid

-- lower OBJECT-IDENTITY tail ::= oid
abbrev pub object_identity_line : (tail oid : Rule) → Rule
object_identity_line tail oid = lower ⨾ token OBJECT-IDENTITY ⨾ tail ⨾ token assign ⨾ oid

-- lower OBJECT-TYPE SYNTAX syntax [UNITS text] MAX-ACCESS access tail [INDEX { ix } or AUGMENTS { lower }] [DEFVAL { value }] ::= oid
abbrev pub object_type_line : (syntax access tail ix value oid : Rule) → Rule
object_type_line syntax access tail ix value oid =
    lower
    ⨾ token OBJECT-TYPE
    ⨾ token SYNTAX
    ⨾ syntax
    ⨾ optional (token UNITS ⨾ text)
    ⨾ token MAX-ACCESS
    ⨾ access
    ⨾ tail
    ⨾ optional (token INDEX ⨾ braced ix or token AUGMENTS ⨾ braced lower)
    ⨾ optional (token DEFVAL ⨾ braced value)
    ⨾ token assign
    ⨾ oid

-- lower NOTIFICATION-TYPE [OBJECTS { list lower }] tail ::= oid
abbrev pub notification_type_line : (tail oid : Rule) → Rule
notification_type_line tail oid =
    lower ⨾ token NOTIFICATION-TYPE ⨾ optional (token OBJECTS ⨾ braced (list lower)) ⨾ tail ⨾ token assign ⨾ oid

-- Upper ::= TEXTUAL-CONVENTION [DISPLAY-HINT text] tail SYNTAX simple
abbrev pub textual_convention_line : (tail simple : Rule) → Rule
textual_convention_line tail simple =
    Upper
    ⨾ token assign
    ⨾ token TEXTUAL-CONVENTION
    ⨾ optional (token DISPLAY-HINT ⨾ text)
    ⨾ tail
    ⨾ token SYNTAX
    ⨾ simple

-- Upper ::= SEQUENCE { list (lower coltype) }
abbrev pub sequence_type_line : (coltype : Rule) → Rule
sequence_type_line coltype = Upper ⨾ token assign ⨾ token SEQUENCE ⨾ braced (list (lower ⨾ coltype))

-- 5. tail: STATUS status DESCRIPTION text [REFERENCE text]
abbrev pub tail_line : (status : Rule) → Rule
tail_line status = token STATUS ⨾ status ⨾ token DESCRIPTION ⨾ text ⨾ optional (token REFERENCE ⨾ text)

-- 6. syntax: SEQUENCE OF Upper, or simple
abbrev pub syntax_line : (simple : Rule) → Rule
syntax_line simple = token SEQUENCE ⨾ token OF ⨾ Upper or simple

-- 7. simple: INTEGER [enum or ranges]; Upper [ranges or sizes]; OCTET STRING [sizes]; OBJECT IDENTIFIER; BITS enum
abbrev pub simple_line : (ranges sizes enum : Rule) → Rule
simple_line ranges sizes enum =
    token INTEGER ⨾ optional (enum or ranges)
    or Upper ⨾ optional (ranges or sizes)
    or token OCTET ⨾ token STRING ⨾ optional sizes
    or token OBJECT ⨾ token IDENTIFIER
    or token BITS ⨾ enum

-- 8. coltype: INTEGER, OCTET STRING, OBJECT IDENTIFIER, BITS, Upper
abbrev pub coltype : Rule
coltype =
    token INTEGER
    or token OCTET ⨾ token STRING
    or token OBJECT ⨾ token IDENTIFIER
    or token BITS
    or Upper

-- 9. ranges: ( r parted by | ), at least one r, r being number or number .. number; sizes: ( SIZE ranges );
-- enum: { list (lower ( number )) }
abbrev pub ranges : Rule
ranges = bracketed (parted (token bar) (number or number ⨾ token dots ⨾ number))

abbrev pub sizes : Rule
sizes = bracketed (token SIZE ⨾ ranges)

abbrev pub enum : Rule
enum = braced (list (lower ⨾ bracketed number))

-- 10. ix: lower; IMPLIED lower; or lower , ix
abbrev pub ix : Rule
ix = repeated (lower ⨾ token comma) (lower or token IMPLIED ⨾ lower)

-- 11. value: number, text, hex, lower, or { } or { list lower }
abbrev pub value : Rule
value =
    number
    or text
    or hex
    or lower
    or token left_brace ⨾ token right_brace
    or braced (list lower)

-- 12. oid: { lower part part* }, part being a number or lower ( number ); the numbers not negative
abbrev pub oid_line : (part : Rule) → Rule
oid_line part = braced (lower ⨾ part ⨾ zero_or_more part)

abbrev pub part : Rule
part = token non_negative or lower ⨾ bracketed (token non_negative)

-- 13. status: current, deprecated, obsolete. access: not-accessible, accessible-for-notify, read-only, read-write, read-create.
abbrev pub status : Rule
status = token current or token deprecated or token obsolete

abbrev pub access : Rule
access =
    token not_accessible
    or token accessible_for_notify
    or token read_only
    or token read_write
    or token read_create

-- The lines with what they name. The word `module` is antt's own, so the module's rule is `smi_module`.

abbrev pub oid : Rule
oid = oid_line part

abbrev pub simple : Rule
simple = simple_line ranges sizes enum

abbrev pub syntax : Rule
syntax = syntax_line simple

abbrev pub tail : Rule
tail = tail_line status

abbrev pub def : Rule
def =
    object_identifier_line oid
    or object_identity_line tail oid
    or object_type_line syntax access tail ix value oid
    or notification_type_line tail oid
    or textual_convention_line tail simple
    or sequence_type_line coltype

abbrev pub identity : Rule
identity = identity_line oid

unfoldable pub smi_module : Rule
smi_module = module_line group identity def
