-- The class of each of the 256 byte values, and what document 01, "Tokens", asks of a byte.
-- Assumes nothing.
use Rattle.std.specs.Prelude.{Bool, cond, not, ◌&&◌, ◌||◌, ◌≡◌, List, [], ◌∷◌, ℕ, ◌+◌, ◌<◌, leb, eqb, get_or}
use Rattle.terminal.specs.Terminal.{left_brace, right_brace, left_paren, right_paren, comma, semicolon, bar}

-- The classes are numbered so that what a test asks for stands side by side: letters and digits, then the marks of one byte,
-- each with its token's number, then the others.

-- g to z
abbrev pub small : ℕ
small = 0

-- a to f
abbrev pub small_hex : ℕ
small_hex = 1

-- 0 to 9
abbrev pub digit : ℕ
digit = 2

-- A to F
abbrev pub capital_hex : ℕ
capital_hex = 3

-- G to Z
abbrev pub capital : ℕ
capital = 4

-- `:`
abbrev pub colon : ℕ
colon = bar + 1

-- `.`
abbrev pub dot : ℕ
dot = bar + 2

-- `'`
abbrev pub apostrophe : ℕ
apostrophe = bar + 3

-- `-`
abbrev pub hyphen : ℕ
hyphen = bar + 4

-- no token starts with it, and it may stand in a text
abbrev pub plain : ℕ
plain = bar + 5

-- a blank that ends a comment: 10 and 13
abbrev pub newline : ℕ
newline = bar + 6

-- any other blank that may stand in a text: 9 and 32
abbrev pub space : ℕ
space = bar + 7

-- a blank that is forbidden in a text: 11 and 12
abbrev pub feed : ℕ
feed = bar + 8

-- `"`, which starts and ends a text
abbrev pub quote : ℕ
quote = bar + 9

-- no token starts with it, and it is forbidden in a text
abbrev pub other : ℕ
other = bar + 10

-- bytes from `from` to `to` have the class `class`
pub record Row : Type 0 where
  pub from : ℕ
  pub to : ℕ
  pub class : ℕ

abbrev row : ℕ → ℕ → ℕ → Row
row f t c = record { from = f; to = t; class = c }

-- the class of every byte that is not `other`: the first row that holds the byte gives it
unfoldable pub rows : List Row
rows =
    row 9 9 space
    ∷ row 10 10 newline
    ∷ row 11 12 feed
    ∷ row 13 13 newline
    ∷ row 32 32 space
    ∷ row 34 34 quote
    ∷ row 39 39 apostrophe
    ∷ row 40 40 left_paren
    ∷ row 41 41 right_paren
    ∷ row 44 44 comma
    ∷ row 45 45 hyphen
    ∷ row 46 46 dot
    ∷ row 48 57 digit
    ∷ row 58 58 colon
    ∷ row 59 59 semicolon
    ∷ row 65 70 capital_hex
    ∷ row 71 90 capital
    ∷ row 97 102 small_hex
    ∷ row 103 122 small
    ∷ row 123 123 left_brace
    ∷ row 124 124 bar
    ∷ row 125 125 right_brace
    ∷ row 32 126 plain
    ∷ []

-- the class in the first of the rows that holds b
unfoldable pub class_in : List Row → ℕ → ℕ
class_in [] b = other
class_in (r ∷ rs) b = cond (leb r.from b && leb b r.to) r.class (class_in rs b)

-- the class of the byte b
unfoldable pub class_of : ℕ → ℕ
class_of b = class_in rows b

-- a table of 256 entries gives each byte value its class
pub record ClassTable (table : List ℕ) : Type 0 where
  pub gives : (b : ℕ) → b < 256 → get_or table b 0 ≡ class_of b

-- What stands in a token or a gap depends on a byte b and on the byte after it, `next`, which is 0 at the text's end.

-- b's class lies from low to high
abbrev pub classed : ℕ → ℕ → ℕ → ℕ → Bool
classed low high b next = leb low (class_of b) && leb (class_of b) high

-- 9 to 13 and 32
abbrev pub blank_byte : ℕ → ℕ → Bool
blank_byte = classed newline feed

-- 0 to 9
abbrev pub digit_byte : ℕ → ℕ → Bool
digit_byte = classed digit digit

-- 0 to 9, A to F, a to f
abbrev pub hex_byte : ℕ → ℕ → Bool
hex_byte = classed small_hex capital_hex

-- what may stand in a text: 9, 10, 13 and 32 to 126 except the quote
abbrev pub text_byte : ℕ → ℕ → Bool
text_byte = classed small space

-- a letter or a digit
abbrev pub alphanumeric : ℕ → Bool
alphanumeric b = leb (class_of b) capital

-- a letter, a digit, or a hyphen that a letter or digit follows
abbrev pub name_byte : ℕ → ℕ → Bool
name_byte b next = alphanumeric b || (eqb (class_of b) hyphen && alphanumeric next)

-- two hyphens
abbrev pub two_hyphens : ℕ → ℕ → Bool
two_hyphens b next = eqb (class_of b) hyphen && eqb (class_of next) hyphen

-- what doesn't end a comment: neither byte 10 or 13 nor the first of two hyphens
abbrev pub comment_byte : ℕ → ℕ → Bool
comment_byte b next = not (eqb (class_of b) newline) && not (two_hyphens b next)
