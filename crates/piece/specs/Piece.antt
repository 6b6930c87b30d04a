-- What a text holds at a place: blanks, a comment, a token or a refusal. Document 01, "Tokens", with refusals 3 to 6.
-- A text is the list of its bytes. `cond t a b` is a where the test t holds, and b where it doesn't.
-- Assumes nothing.
use Rattle.std.specs.Prelude.{Bool, cond, ◌&&◌, ◌||◌, List, [], ◌∷◌, ℕ, suc, ◌+◌, leb, ltb, eqb, length, get_or, take, drop}
use Rattle.std.specs.List.{starts_with}
use Rattle.index.specs.Choice.{when◌then◌else◌}
use Rattle.terminal.specs.Terminal.{number, negative, text, hex, assign, dots, left_brace, bar}
use Rattle.lexicon.specs.Byte.{class_of, quote, hyphen, apostrophe, colon, dot, digit, blank_byte, digit_byte, hex_byte, text_byte, name_byte, alphanumeric, comment_byte, two_hyphens}
use Rattle.lexicon.specs.Word.{longest_name, name_class}
use Rattle.piece.specs.Decimal.{decimal}

-- how many bytes at the start of s, one after the other, pass the test p: the longest reading. The test is of a byte and the
-- byte after it (0 at the end)
unfoldable pub span : (ℕ → ℕ → Bool) → List ℕ → ℕ
span p [] = 0
span p (b ∷ bs) = cond (p b (get_or bs 0 0)) (suc (span p bs)) 0

-- What the text holds at a place, read from there on.
pub data Piece : Type 0 where
  -- blanks, or a comment, of so many bytes
  gap : ℕ → Piece
  -- a token: its class, and of how many bytes
  token : ℕ → ℕ → Piece
  -- no token: the refusal's number, and how many bytes after this place the refusal's place is
  refusal : ℕ → ℕ → Piece

-- The refusals' numbers.

-- no token starts here
abbrev pub no_token : ℕ
no_token = 3

-- forbidden byte in a text
abbrev pub forbidden : ℕ
forbidden = 4

-- name over 64 bytes
abbrev pub long_name : ℕ
long_name = 5

-- number out of range
abbrev pub out_of_range : ℕ
out_of_range = 6

-- The largest number; the largest magnitude of a negative number.

abbrev pub largest_number : ℕ
largest_number = 4294967295

abbrev pub largest_negative : ℕ
largest_negative = 2147483648

-- where s starts with a letter: a name
unfoldable pub name : List ℕ → Piece
name s =
    cond (leb (span name_byte s) longest_name) (token (name_class (take (span name_byte s) s)) (span name_byte s)) (refusal long_name 0)

-- the run of digits at the start of s is no number: it has several digits and starts with 0 (byte 48), or stands directly before
-- a letter (what follows the run is no digit, so that it is a letter if it is one of the two)
unfoldable pub misfit : List ℕ → Bool
misfit s =
    (eqb (get_or s 0 0) 48 && ltb 1 (span digit_byte s)) || alphanumeric (get_or s (span digit_byte s) 0)

-- where s starts with a digit: a number that is not negative. What is no token comes before what is out of range
unfoldable pub non_negative : List ℕ → Piece
non_negative s =
    when misfit s then refusal no_token 0
    else when leb (decimal (take (span digit_byte s) s)) largest_number then token number (span digit_byte s)
    else refusal out_of_range 0

-- where a hyphen is followed by s, which starts with a digit: a negative number. A hyphen before 0 makes none
unfoldable pub below_zero : List ℕ → Piece
below_zero s =
    when eqb (get_or s 0 0) 48 || misfit s then refusal no_token 0
    else when leb (decimal (take (span digit_byte s) s)) largest_negative then token negative (suc (span digit_byte s))
    else refusal out_of_range 0

-- what a comment that is followed by s takes of it: two hyphens
abbrev pub closing : List ℕ → ℕ
closing s = cond (two_hyphens (get_or s 0 0) (get_or s 1 0)) 2 0

-- where two hyphens are followed by s: a comment, up to and with the next two hyphens, up to byte 10 or 13, or to the text's end
unfoldable pub comment : List ℕ → Piece
comment s = gap (2 + span comment_byte s + closing (drop (span comment_byte s) s))

-- where a hyphen is followed by s: a comment, a negative number, or no token
unfoldable pub after_hyphen : List ℕ → Piece
after_hyphen s =
    when eqb (class_of (get_or s 0 0)) hyphen then comment (drop 1 s)
    else when eqb (class_of (get_or s 0 0)) digit then below_zero s
    else refusal no_token 0

-- where a quote is followed by s, of which the first n bytes may stand in a text, and the next not: that one is missing, the end
-- quote, or a forbidden byte
abbrev pub text_end : List ℕ → ℕ → Piece
text_end s n =
    when leb (length s) n then refusal no_token 0
    else when eqb (class_of (get_or s n 0)) quote then token text (n + 2)
    else refusal forbidden (n + 1)

-- where a quote is followed by s: a text
unfoldable pub quoted : List ℕ → Piece
quoted s = text_end s (span text_byte s)

-- where an apostrophe is followed by s: hex digits or none, an apostrophe and H (byte 72)
unfoldable pub hex_string : List ℕ → Piece
hex_string s =
    cond (eqb (class_of (get_or s (span hex_byte s) 0)) apostrophe && eqb (get_or s (span hex_byte s + 1) 0) 72)
    (token hex (span hex_byte s + 3))
    (refusal no_token 0)

-- where a colon is followed by s: `::=`, whose other bytes are 58 and 61
unfoldable pub after_colon : List ℕ → Piece
after_colon s = cond (eqb (get_or s 0 0) 58 && eqb (get_or s 1 0) 61) (token assign 3) (refusal no_token 0)

-- where a dot is followed by s: `..`, whose other byte is 46
unfoldable pub after_dot : List ℕ → Piece
after_dot s = cond (eqb (get_or s 0 0) 46) (token dots 2) (refusal no_token 0)

-- where the first byte of a mark of this class is followed by s: the mark, where s begins with the rest of its bytes
unfoldable pub marked : List ℕ → ℕ → List ℕ → Piece
marked rest class s = cond (starts_with eqb s rest) (token class (suc (length rest))) (refusal no_token 0)

-- where a byte of the class c, which is no letter, no digit and no blank, is followed by s
unfoldable pub punctuation : ℕ → List ℕ → Piece
punctuation c s =
    when leb left_brace c && leb c bar then token c 1
    else when eqb c hyphen then after_hyphen s
    else when eqb c quote then quoted s
    else when eqb c colon then after_colon s
    else when eqb c dot then after_dot s
    else when eqb c apostrophe then hex_string s
    else refusal no_token 0

-- what a text holds at the start of s, which is what is left of it and not empty, by the class of the first byte
unfoldable pub piece : List ℕ → Piece
piece s =
    when alphanumeric (get_or s 0 0) then (when eqb (class_of (get_or s 0 0)) digit then non_negative s else name s)
    else when blank_byte (get_or s 0 0) 0 then gap (span blank_byte s)
    else punctuation (class_of (get_or s 0 0)) (drop 1 s)

-- how many bytes a piece has
abbrev pub size : Piece → ℕ
size (gap n) = n
size (token c n) = n
size (refusal r d) = 0
