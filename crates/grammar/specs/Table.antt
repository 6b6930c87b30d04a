-- The automaton of the grammar, printed by tools/grammar_table.py: a line for each state, with the states that the
-- classes lead to. Nothing rests on how it was made: the proofs test each state and each class.
-- Assumes nothing.
use Rattle.std.specs.Prelude.{List, [], ◌∷◌, ◌++◌, ℕ}
use Rattle.grammar.specs.Automaton.{Automaton, dense}
use Rattle.terminal.specs.Terminal.{number, negative, text, hex, assign, dots, left_brace, right_brace, left_paren, right_paren, comma, semicolon, bar, lower, Upper, current, deprecated, obsolete, not_accessible, accessible_for_notify, read_only, read_write, read_create, AUGMENTS, BEGIN, BITS, CONTACT-INFO, DEFINITIONS, DEFVAL, DESCRIPTION, DISPLAY-HINT, END, FROM, IDENTIFIER, IMPLIED, IMPORTS, INDEX, INTEGER, LAST-UPDATED, MAX-ACCESS, MODULE-IDENTITY, NOTIFICATION-TYPE, OBJECT, OBJECT-IDENTITY, OBJECT-TYPE, OBJECTS, OCTET, OF, ORGANIZATION, REFERENCE, REVISION, SEQUENCE, SIZE, STATUS, STRING, SYNTAX, TEXTUAL-CONVENTION, UNITS, terminals}

abbrev lowers : ℕ → List (ℕ × ℕ)
lowers x = (lower, x) ∷ (current, x) ∷ (deprecated, x) ∷ (obsolete, x) ∷ (not_accessible, x) ∷ (accessible_for_notify, x) ∷ (read_only, x) ∷ (read_write, x) ∷ (read_create, x) ∷ []

abbrev macro_words : ℕ → List (ℕ × ℕ)
macro_words x = (MODULE-IDENTITY, x) ∷ (OBJECT-IDENTITY, x) ∷ (OBJECT-TYPE, x) ∷ (NOTIFICATION-TYPE, x) ∷ (TEXTUAL-CONVENTION, x) ∷ []

abbrev numbers : ℕ → List (ℕ × ℕ)
numbers x = (number, x) ∷ (negative, x) ∷ []

-- for each state the classes that lead on, and the state that each of them leads to
unfoldable pub transitions : List (List (ℕ × ℕ))
transitions =
    -- 0, dead: no derived sequence goes on so
    [] ∷
    -- 1, the start
    ((Upper, 2) ∷ []) ∷
    -- 2, after Upper of module
    ((DEFINITIONS, 3) ∷ []) ∷
    -- 3, after DEFINITIONS of module
    ((assign, 4) ∷ []) ∷
    -- 4, after ::= of module
    ((BEGIN, 5) ∷ []) ∷
    -- 5, after BEGIN of module
    (lowers 6 ++ (IMPORTS, 7) ∷ []) ∷
    -- 6, after lower of identity
    ((MODULE-IDENTITY, 8) ∷ []) ∷
    -- 7, after , of group, IMPORTS of module
    (lowers 9 ++ macro_words 9 ++ (Upper, 9) ∷ []) ∷
    -- 8, after MODULE-IDENTITY of identity
    ((LAST-UPDATED, 10) ∷ []) ∷
    -- 9, after lower or macro word or Upper of group
    ((comma, 7) ∷ (FROM, 11) ∷ []) ∷
    -- 10, after LAST-UPDATED of identity
    ((text, 12) ∷ []) ∷
    -- 11, after FROM of group
    ((Upper, 13) ∷ []) ∷
    -- 12, after text of identity
    ((ORGANIZATION, 14) ∷ []) ∷
    -- 13, after Upper of group
    (lowers 9 ++ macro_words 9 ++ (Upper, 9) ∷ (semicolon, 15) ∷ []) ∷
    -- 14, after ORGANIZATION of identity
    ((text, 16) ∷ []) ∷
    -- 15, after ; of module
    (lowers 6) ∷
    -- 16, after text of identity
    ((CONTACT-INFO, 17) ∷ []) ∷
    -- 17, after CONTACT-INFO or REVISION of identity
    ((text, 18) ∷ []) ∷
    -- 18, after text of identity
    ((DESCRIPTION, 19) ∷ []) ∷
    -- 19, after DESCRIPTION of identity
    ((text, 20) ∷ []) ∷
    -- 20, after text of identity
    ((REVISION, 17) ∷ (assign, 21) ∷ []) ∷
    -- 21, after ::= of identity, ::= of notification-type, ::= of object-identifier, ::= of object-type
    ((left_brace, 22) ∷ []) ∷
    -- 22, after { of oid
    (lowers 23) ∷
    -- 23, after lower of oid
    ((number, 24) ∷ lowers 25) ∷
    -- 24, after number or ) of part
    ((number, 24) ∷ lowers 25 ++ (right_brace, 26) ∷ []) ∷
    -- 25, after lower of part
    ((left_paren, 27) ∷ []) ∷
    -- 26, after } of enum, } of oid, ) of ranges, } of sequence-type, IDENTIFIER of simple, ) of sizes
    (lowers 28 ++ (Upper, 29) ∷ (END, 30) ∷ []) ∷
    -- 27, after ( of part
    ((number, 31) ∷ []) ∷
    -- 28, after lower of notification-type, lower of object-identifier, lower of object-identity, lower of object-type
    ((NOTIFICATION-TYPE, 32) ∷ (OBJECT, 33) ∷ (OBJECT-IDENTITY, 34) ∷ (OBJECT-TYPE, 35) ∷ []) ∷
    -- 29, after Upper of sequence-type, Upper of textual-convention
    ((assign, 36) ∷ []) ∷
    -- 30, after END of module
    [] ∷
    -- 31, after number of part
    ((right_paren, 24) ∷ []) ∷
    -- 32, after NOTIFICATION-TYPE of notification-type
    ((OBJECTS, 37) ∷ (STATUS, 38) ∷ []) ∷
    -- 33, after OBJECT of object-identifier
    ((IDENTIFIER, 39) ∷ []) ∷
    -- 34, after } of notification-type, OBJECT-IDENTITY of object-identity
    ((STATUS, 38) ∷ []) ∷
    -- 35, after OBJECT-TYPE of object-type
    ((SYNTAX, 40) ∷ []) ∷
    -- 36, after ::= of sequence-type, ::= of textual-convention
    ((SEQUENCE, 41) ∷ (TEXTUAL-CONVENTION, 42) ∷ []) ∷
    -- 37, after OBJECTS of notification-type
    ((left_brace, 43) ∷ []) ∷
    -- 38, after STATUS of tail
    ((current, 44) ∷ (deprecated, 44) ∷ (obsolete, 44) ∷ []) ∷
    -- 39, after IDENTIFIER of object-identifier, } of object-type, text of tail
    ((assign, 21) ∷ []) ∷
    -- 40, after SYNTAX of object-type
    ((Upper, 45) ∷ (BITS, 46) ∷ (INTEGER, 47) ∷ (OBJECT, 48) ∷ (OCTET, 49) ∷ (SEQUENCE, 50) ∷ []) ∷
    -- 41, after SEQUENCE of sequence-type
    ((left_brace, 51) ∷ []) ∷
    -- 42, after TEXTUAL-CONVENTION of textual-convention
    ((DISPLAY-HINT, 52) ∷ (STATUS, 53) ∷ []) ∷
    -- 43, after { or , of notification-type
    (lowers 54) ∷
    -- 44, after current or deprecated or obsolete of tail
    ((DESCRIPTION, 55) ∷ []) ∷
    -- 45, after Upper of simple
    ((left_paren, 56) ∷ (MAX-ACCESS, 57) ∷ (UNITS, 58) ∷ []) ∷
    -- 46, after BITS of simple
    ((left_brace, 59) ∷ []) ∷
    -- 47, after INTEGER of simple
    ((MAX-ACCESS, 57) ∷ (UNITS, 58) ∷ (left_brace, 59) ∷ (left_paren, 60) ∷ []) ∷
    -- 48, after OBJECT of simple
    ((IDENTIFIER, 61) ∷ []) ∷
    -- 49, after OCTET of simple
    ((STRING, 62) ∷ []) ∷
    -- 50, after SEQUENCE of syntax
    ((OF, 63) ∷ []) ∷
    -- 51, after { or , of sequence-type
    (lowers 64) ∷
    -- 52, after DISPLAY-HINT of textual-convention
    ((text, 65) ∷ []) ∷
    -- 53, after STATUS of tail
    ((current, 66) ∷ (deprecated, 66) ∷ (obsolete, 66) ∷ []) ∷
    -- 54, after lower of notification-type
    ((right_brace, 34) ∷ (comma, 43) ∷ []) ∷
    -- 55, after DESCRIPTION of tail
    ((text, 67) ∷ []) ∷
    -- 56, after ( of ranges, ( of sizes
    (numbers 68 ++ (SIZE, 69) ∷ []) ∷
    -- 57, after MAX-ACCESS of object-type
    ((not_accessible, 70) ∷ (accessible_for_notify, 70) ∷ (read_only, 70) ∷ (read_write, 70) ∷ (read_create, 70) ∷ []) ∷
    -- 58, after UNITS of object-type
    ((text, 71) ∷ []) ∷
    -- 59, after { or , of enum
    (lowers 72) ∷
    -- 60, after ( or | of ranges
    (numbers 68) ∷
    -- 61, after } of enum, ) of ranges, IDENTIFIER of simple, ) of sizes, Upper of syntax
    ((MAX-ACCESS, 57) ∷ (UNITS, 58) ∷ []) ∷
    -- 62, after STRING of simple
    ((MAX-ACCESS, 57) ∷ (UNITS, 58) ∷ (left_paren, 73) ∷ []) ∷
    -- 63, after OF of syntax
    ((Upper, 61) ∷ []) ∷
    -- 64, after lower of sequence-type
    ((Upper, 74) ∷ (BITS, 74) ∷ (INTEGER, 74) ∷ (OBJECT, 75) ∷ (OCTET, 76) ∷ []) ∷
    -- 65, after text of textual-convention
    ((STATUS, 53) ∷ []) ∷
    -- 66, after current or deprecated or obsolete of tail
    ((DESCRIPTION, 77) ∷ []) ∷
    -- 67, after text of tail
    ((assign, 21) ∷ (REFERENCE, 78) ∷ []) ∷
    -- 68, after number of ranges
    ((bar, 60) ∷ (right_paren, 61) ∷ (dots, 79) ∷ []) ∷
    -- 69, after SIZE of sizes
    ((left_paren, 80) ∷ []) ∷
    -- 70, after not-accessible or accessible-for-notify or read-only or read-write or read-create of smi-module
    ((STATUS, 81) ∷ []) ∷
    -- 71, after text of object-type
    ((MAX-ACCESS, 57) ∷ []) ∷
    -- 72, after lower of enum
    ((left_paren, 82) ∷ []) ∷
    -- 73, after ( of sizes
    ((SIZE, 69) ∷ []) ∷
    -- 74, after Upper or BITS or IDENTIFIER or INTEGER or STRING of coltype
    ((right_brace, 26) ∷ (comma, 51) ∷ []) ∷
    -- 75, after OBJECT of coltype
    ((IDENTIFIER, 74) ∷ []) ∷
    -- 76, after OCTET of coltype
    ((STRING, 74) ∷ []) ∷
    -- 77, after DESCRIPTION of tail
    ((text, 83) ∷ []) ∷
    -- 78, after REFERENCE of tail
    ((text, 39) ∷ []) ∷
    -- 79, after .. of ranges
    (numbers 84) ∷
    -- 80, after ( or | of ranges
    (numbers 85) ∷
    -- 81, after STATUS of tail
    ((current, 86) ∷ (deprecated, 86) ∷ (obsolete, 86) ∷ []) ∷
    -- 82, after ( of enum
    (numbers 87) ∷
    -- 83, after text of tail
    ((REFERENCE, 88) ∷ (SYNTAX, 89) ∷ []) ∷
    -- 84, after number of ranges
    ((bar, 60) ∷ (right_paren, 61) ∷ []) ∷
    -- 85, after number of ranges
    ((bar, 80) ∷ (dots, 90) ∷ (right_paren, 91) ∷ []) ∷
    -- 86, after current or deprecated or obsolete of tail
    ((DESCRIPTION, 92) ∷ []) ∷
    -- 87, after number of enum
    ((right_paren, 93) ∷ []) ∷
    -- 88, after REFERENCE of tail
    ((text, 94) ∷ []) ∷
    -- 89, after SYNTAX of textual-convention
    ((Upper, 95) ∷ (BITS, 96) ∷ (INTEGER, 97) ∷ (OBJECT, 98) ∷ (OCTET, 99) ∷ []) ∷
    -- 90, after .. of ranges
    (numbers 100) ∷
    -- 91, after ) of ranges
    ((right_paren, 61) ∷ []) ∷
    -- 92, after DESCRIPTION of tail
    ((text, 101) ∷ []) ∷
    -- 93, after ) of enum
    ((comma, 59) ∷ (right_brace, 61) ∷ []) ∷
    -- 94, after text of tail
    ((SYNTAX, 89) ∷ []) ∷
    -- 95, after Upper of simple
    (lowers 28 ++ (Upper, 29) ∷ (END, 30) ∷ (left_paren, 102) ∷ []) ∷
    -- 96, after BITS of simple
    ((left_brace, 103) ∷ []) ∷
    -- 97, after INTEGER of simple
    (lowers 28 ++ (Upper, 29) ∷ (END, 30) ∷ (left_brace, 103) ∷ (left_paren, 104) ∷ []) ∷
    -- 98, after OBJECT of simple
    ((IDENTIFIER, 26) ∷ []) ∷
    -- 99, after OCTET of simple
    ((STRING, 105) ∷ []) ∷
    -- 100, after number of ranges
    ((bar, 80) ∷ (right_paren, 91) ∷ []) ∷
    -- 101, after text of tail
    ((assign, 21) ∷ (AUGMENTS, 106) ∷ (DEFVAL, 107) ∷ (INDEX, 108) ∷ (REFERENCE, 109) ∷ []) ∷
    -- 102, after ( of ranges, ( of sizes
    (numbers 110 ++ (SIZE, 111) ∷ []) ∷
    -- 103, after { or , of enum
    (lowers 112) ∷
    -- 104, after ( or | of ranges
    (numbers 110) ∷
    -- 105, after STRING of simple
    (lowers 28 ++ (Upper, 29) ∷ (END, 30) ∷ (left_paren, 113) ∷ []) ∷
    -- 106, after AUGMENTS of object-type
    ((left_brace, 114) ∷ []) ∷
    -- 107, after DEFVAL of object-type
    ((left_brace, 115) ∷ []) ∷
    -- 108, after INDEX of object-type
    ((left_brace, 116) ∷ []) ∷
    -- 109, after REFERENCE of tail
    ((text, 117) ∷ []) ∷
    -- 110, after number of ranges
    ((right_paren, 26) ∷ (bar, 104) ∷ (dots, 118) ∷ []) ∷
    -- 111, after SIZE of sizes
    ((left_paren, 119) ∷ []) ∷
    -- 112, after lower of enum
    ((left_paren, 120) ∷ []) ∷
    -- 113, after ( of sizes
    ((SIZE, 111) ∷ []) ∷
    -- 114, after IMPLIED of ix, { of object-type
    (lowers 121) ∷
    -- 115, after { of object-type
    (lowers 122 ++ numbers 122 ++ (text, 122) ∷ (hex, 122) ∷ (left_brace, 123) ∷ []) ∷
    -- 116, after , of ix, { of object-type
    ((IMPLIED, 114) ∷ lowers 124) ∷
    -- 117, after text of tail
    ((assign, 21) ∷ (AUGMENTS, 106) ∷ (DEFVAL, 107) ∷ (INDEX, 108) ∷ []) ∷
    -- 118, after .. of ranges
    (numbers 125) ∷
    -- 119, after ( or | of ranges
    (numbers 126) ∷
    -- 120, after ( of enum
    (numbers 127) ∷
    -- 121, after lower of object-type
    ((right_brace, 128) ∷ []) ∷
    -- 122, after lower or number or text or hex or } of value
    ((right_brace, 39) ∷ []) ∷
    -- 123, after { of value
    ((right_brace, 122) ∷ lowers 129) ∷
    -- 124, after lower of ix
    ((comma, 116) ∷ (right_brace, 128) ∷ []) ∷
    -- 125, after number of ranges
    ((right_paren, 26) ∷ (bar, 104) ∷ []) ∷
    -- 126, after number of ranges
    ((bar, 119) ∷ (dots, 130) ∷ (right_paren, 131) ∷ []) ∷
    -- 127, after number of enum
    ((right_paren, 132) ∷ []) ∷
    -- 128, after } of object-type
    ((assign, 21) ∷ (DEFVAL, 107) ∷ []) ∷
    -- 129, after lower of value
    ((right_brace, 122) ∷ (comma, 133) ∷ []) ∷
    -- 130, after .. of ranges
    (numbers 134) ∷
    -- 131, after ) of ranges
    ((right_paren, 26) ∷ []) ∷
    -- 132, after ) of enum
    ((right_brace, 26) ∷ (comma, 103) ∷ []) ∷
    -- 133, after , of value
    (lowers 129) ∷
    -- 134, after number of ranges
    ((bar, 119) ∷ (right_paren, 131) ∷ []) ∷
    []

unfoldable pub module_automaton : Automaton
unfolding transitions
module_automaton =
    record { states = 135; width = terminals; table = dense terminals transitions; start = 1; accepting = 30 }
