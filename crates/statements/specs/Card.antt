-- The whole case of "The shelf card" in document 01: its text, and what reading it comes to.
-- Assumes nothing.
use Rattle.std.specs.Prelude.{List, [], ◌∷◌, ◌++◌, ℕ}
use Rattle.lexicon.specs.Word.{bytes}

-- the text, "byte 10 after each line"
unfoldable pub card_text : List ℕ
card_text =
    bytes "T DEFINITIONS ::= BEGIN\n"
    ++ (bytes "IMPORTS MODULE-IDENTITY FROM SNMPv2-SMI;\n"
    ++ (bytes "t MODULE-IDENTITY LAST-UPDATED \"\" ORGANIZATION \"\" CONTACT-INFO \"\" DESCRIPTION \"\" ::= { iso 9 }\n"
    ++ (bytes "a OBJECT IDENTIFIER ::= { t 1 }\n"
    ++ (bytes "END\n"))))

-- `1 t 1.9 0 0 0`: kind; offset and length of the name; first index and count of the sub-identifiers; the other fields are absent
abbrev pub record_of_t : List ℕ
record_of_t = 1 ∷ 65 ∷ 1 ∷ 0 ∷ 2 ∷ 0 ∷ 0 ∷ 0 ∷ 0 ∷ 0 ∷ []

-- `2 a 1.9.1 0 0 0`
abbrev pub record_of_a : List ℕ
record_of_a = 2 ∷ 160 ∷ 1 ∷ 2 ∷ 3 ∷ 0 ∷ 0 ∷ 0 ∷ 0 ∷ 0 ∷ []

-- 1.9 and 1.9.1
abbrev pub card_numbers : List ℕ
card_numbers = 1 ∷ 9 ∷ 1 ∷ 9 ∷ 1 ∷ []
