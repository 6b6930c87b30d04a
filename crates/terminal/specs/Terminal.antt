-- The terminals of the grammar, numbered once: the class that each token has. Document 01, "Tokens" and "Grammar".
-- Assumes nothing.
use Rattle.std.specs.Prelude.{ℕ, ◌-◌}

-- 0 or a positive number
abbrev pub number : ℕ
number = 0

-- a negative number
abbrev pub negative : ℕ
negative = 1

-- bytes between quotes
abbrev pub text : ℕ
text = 2

-- hex digits between apostrophes, then H
abbrev pub hex : ℕ
hex = 3

-- `::=`
abbrev pub assign : ℕ
assign = 4

-- `..`
abbrev pub dots : ℕ
dots = 5

-- the marks of one byte: a byte of one of them has the same number as its class

-- `{`
abbrev pub left_brace : ℕ
left_brace = 6

-- `}`
abbrev pub right_brace : ℕ
right_brace = 7

-- `(`
abbrev pub left_paren : ℕ
left_paren = 8

-- `)`
abbrev pub right_paren : ℕ
right_paren = 9

-- `,`
abbrev pub comma : ℕ
comma = 10

-- `;`
abbrev pub semicolon : ℕ
semicolon = 11

-- `|`
abbrev pub bar : ℕ
bar = 12

-- names, from here to the end: lower, Upper and the words

-- a name with a lower-case first letter that is no status word and no access word
abbrev pub lower : ℕ
lower = 13

-- a name with an upper-case first letter that is no capital word of the grammar
abbrev pub Upper : ℕ
Upper = 14

-- the words, from here to the end. The status words and the access words, in the grammar's order; each of them is also a *lower*

abbrev pub current : ℕ
current = 15

abbrev pub deprecated : ℕ
deprecated = 16

abbrev pub obsolete : ℕ
obsolete = 17

abbrev pub not_accessible : ℕ
not_accessible = 18

abbrev pub accessible_for_notify : ℕ
accessible_for_notify = 19

abbrev pub read_only : ℕ
read_only = 20

abbrev pub read_write : ℕ
read_write = 21

abbrev pub read_create : ℕ
read_create = 22

-- the capital words of the grammar. A new word comes last, so that no other number moves

abbrev pub AUGMENTS : ℕ
AUGMENTS = 23

abbrev pub BEGIN : ℕ
BEGIN = 24

abbrev pub BITS : ℕ
BITS = 25

abbrev pub CONTACT-INFO : ℕ
CONTACT-INFO = 26

abbrev pub DEFINITIONS : ℕ
DEFINITIONS = 27

abbrev pub DEFVAL : ℕ
DEFVAL = 28

abbrev pub DESCRIPTION : ℕ
DESCRIPTION = 29

abbrev pub DISPLAY-HINT : ℕ
DISPLAY-HINT = 30

abbrev pub END : ℕ
END = 31

abbrev pub FROM : ℕ
FROM = 32

abbrev pub IDENTIFIER : ℕ
IDENTIFIER = 33

abbrev pub IMPLIED : ℕ
IMPLIED = 34

abbrev pub IMPORTS : ℕ
IMPORTS = 35

abbrev pub INDEX : ℕ
INDEX = 36

abbrev pub INTEGER : ℕ
INTEGER = 37

abbrev pub LAST-UPDATED : ℕ
LAST-UPDATED = 38

abbrev pub MAX-ACCESS : ℕ
MAX-ACCESS = 39

abbrev pub MODULE-IDENTITY : ℕ
MODULE-IDENTITY = 40

abbrev pub NOTIFICATION-TYPE : ℕ
NOTIFICATION-TYPE = 41

abbrev pub OBJECT : ℕ
OBJECT = 42

abbrev pub OBJECT-IDENTITY : ℕ
OBJECT-IDENTITY = 43

abbrev pub OBJECT-TYPE : ℕ
OBJECT-TYPE = 44

abbrev pub OBJECTS : ℕ
OBJECTS = 45

abbrev pub OCTET : ℕ
OCTET = 46

abbrev pub OF : ℕ
OF = 47

abbrev pub ORGANIZATION : ℕ
ORGANIZATION = 48

abbrev pub REFERENCE : ℕ
REFERENCE = 49

abbrev pub REVISION : ℕ
REVISION = 50

abbrev pub SEQUENCE : ℕ
SEQUENCE = 51

abbrev pub SIZE : ℕ
SIZE = 52

abbrev pub STATUS : ℕ
STATUS = 53

abbrev pub STRING : ℕ
STRING = 54

abbrev pub SYNTAX : ℕ
SYNTAX = 55

abbrev pub TEXTUAL-CONVENTION : ℕ
TEXTUAL-CONVENTION = 56

abbrev pub UNITS : ℕ
UNITS = 57

-- how many there are
abbrev pub terminals : ℕ
terminals = 58

-- the first of the words, and how many words there are
abbrev pub first_word : ℕ
first_word = current

abbrev pub word_count : ℕ
word_count = terminals - first_word
