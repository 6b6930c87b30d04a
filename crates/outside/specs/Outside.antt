-- Which refusals are of what this reader leaves out, and not of a fault in the module: a text over its limit, a symbol of a module that is
-- not built in, and a word of SMI that stands in valid modules where the grammar of document 01 has none.
-- Assumes nothing.
use Rattle.std.specs.Prelude.{ℕ, ◌+◌, Bool, true, false, ◌||◌, List, [], ◌∷◌, Option, Some, None, is_some, eqb, leb, length, drop}
use Rattle.index.specs.Choice.{when◌then◌else◌}
use Rattle.lexicon.specs.Word.{bytes, same, between}
use Rattle.piece.specs.Piece.{piece, size}
use Rattle.outside.specs.declared.Left.{Left}
use Rattle.outside.specs.declared.Left.TheVariants.{Conformance, Macros, FirstVersion, Exports, Choices}

-- the macros of RFC 2580: groups, compliance and capabilities
unfoldable pub conformance_words : List (List ℕ)
conformance_words = bytes "OBJECT-GROUP" ∷ bytes "NOTIFICATION-GROUP" ∷ bytes "MODULE-COMPLIANCE" ∷ bytes "AGENT-CAPABILITIES" ∷ []

-- behind the name of each macro that RFC 2578 to 2580 define
unfoldable pub macro_word : List ℕ
macro_word = bytes "MACRO"

-- SMIv1 alone has these: the access of its objects (RFC 1212), and its notifications (RFC 1215)
unfoldable pub first_words : List (List ℕ)
first_words = bytes "ACCESS" ∷ bytes "TRAP-TYPE" ∷ []

-- behind BEGIN in RFC 1155
unfoldable pub exports_word : List ℕ
exports_word = bytes "EXPORTS"

-- types of RFC 1155 and 2578 that are one of several
unfoldable pub choice_word : List ℕ
choice_word = bytes "CHOICE"

-- the word is one of these
unfoldable pub among : List ℕ → List (List ℕ) → Bool
among word [] = false
among word (w ∷ ws) = same word w || among word ws

-- what a word is of
unfoldable pub kind_of : List ℕ → Option Left
kind_of word =
    when among word conformance_words then Some Conformance
    else when same word macro_word then Some Macros
    else when among word first_words then Some FirstVersion
    else when same word exports_word then Some Exports
    else when same word choice_word then Some Choices
    else None

-- where the token or gap that stands at a place ends; the place itself, where none does
unfoldable pub behind : List ℕ → ℕ → ℕ
behind text at = at + size (piece (drop at text))

-- the bytes of the token or gap that stands at a place
unfoldable pub standing : List ℕ → ℕ → List ℕ
standing text at = between text at (behind text at)

-- what a text has at a place that is left out: a macro, by the word behind its name and a gap, or else by the word that stands there
unfoldable pub left_out : List ℕ → ℕ → Option Left
left_out text place =
    when leb (length text) place then None
    else when same (standing text (behind text (behind text place))) macro_word then Some Macros
    else kind_of (standing text place)

-- the refusal of this number and clause, at this place of the text, is of what the reader leaves out
unfoldable pub is_outside : ℕ → ℕ → List ℕ → ℕ → Bool
is_outside number clause text place =
    when eqb number 2 then true
    else when eqb number 10 then eqb clause 2
    else when eqb number 7 then is_some (left_out text place)
    else false
