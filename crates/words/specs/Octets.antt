-- Octets as tools print them. An octet is two hex digits, or one that has a colon or a hyphen directly before or behind it. A colon or a
-- hyphen stands directly behind an octet; blanks stand anywhere but between the two digits of one. In front of all that may stand
-- `Hex-STRING:`, 0x or 0X, and blanks before it. Assumes nothing.
use Rattle.std.specs.Prelude.{ℕ, ◌+◌, ◌*◌, Bool, true, false, ◌&&◌, ◌||◌, Option, Some, None, List, [], ◌∷◌, leb, eqb, length, get_or, take, drop}
use Prim.Native.Char.{code}
use Rattle.index.specs.Choice.{when◌then◌else◌}
use Rattle.words.specs.Hex.{hex_digit, is_hex}
use Rattle.words.specs.declared.octets.Before.{Before}
use Rattle.words.specs.declared.octets.Before.TheVariants.{Nothing, Mark, Octet, Digit}
use Rattle.words.specs.declared.octets.Step.{Step}
use Rattle.words.specs.declared.octets.Step.TheVariants.{Pass, Put}

-- a blank: 32, a tab, or a line end and its kin (9 to 13)
unfoldable pub blank : ℕ → Bool
blank b = eqb b 32 || (leb 9 b && leb b 13)

-- a mark: a colon or a hyphen
unfoldable pub mark : ℕ → Bool
mark b = eqb b (code ":") || eqb b (code "-")

-- a digit that no other follows is an octet by itself: a mark stands before it; or nothing does, and a mark behind it
abbrev pub alone : Before → ℕ → Bool
alone Nothing next = mark next
alone Mark next = true
alone Octet next = false
alone Digit next = false

-- what a digit of this value does: with the next digit it is an octet, or by itself, or it is one too many
unfoldable pub digit_step : Before → ℕ → ℕ → Option Step
digit_step before value next =
    when is_hex next then Some (Put (value * 16 + hex_digit next) Digit)
    else when alone before next then Some (Put value Octet)
    else None

-- what a mark does: it is passed directly behind an octet
abbrev pub mark_step : Before → Option Step
mark_step Nothing = None
mark_step Mark = None
mark_step Octet = Some (Pass Mark)
mark_step Digit = None

-- what a byte does that is no second digit
unfoldable pub first_step : Before → ℕ → ℕ → Option Step
first_step before b next =
    when blank b then Some (Pass Nothing)
    else when mark b then mark_step before
    else when is_hex b then digit_step before (hex_digit b) next
    else None

-- what stands before a byte is the first digit of the same octet
abbrev pub is_second : Before → Bool
is_second Nothing = false
is_second Mark = false
is_second Octet = false
is_second Digit = true

-- what a byte does: the second digit of an octet was put with its first
unfoldable pub step : Before → ℕ → ℕ → Option Step
step before b next = when is_second before then Some (Pass Octet) else first_step before b next

-- what then stands before the next byte
unfoldable pub after : Option Step → Before
after (Some (Pass before)) = before
after (Some (Put octet before)) = before
after None = Nothing

-- what a word writes: octets, or none of this form
pub data Writing : Type 0 where
  octets : List ℕ → Writing
  none : Writing

-- an octet in front of others
unfoldable pub in_front : ℕ → Writing → Writing
in_front octet (octets others) = octets (octet ∷ others)
in_front octet none = none

-- a byte in front of others that are written so
unfoldable pub joined : Option Step → Writing → Writing
joined (Some (Pass before)) others = others
joined (Some (Put octet before)) others = in_front octet others
joined None others = none

-- what bytes write, by what stands before them. For the byte behind the last one stands 0, which is no digit and no mark
unfoldable pub octets_from : Before → List ℕ → Writing
octets_from before [] = octets []
octets_from before (b ∷ rest) =
    joined (step before b (get_or rest 0 0)) (octets_from (after (step before b (get_or rest 0 0))) rest)

-- how many blanks a word starts with
unfoldable pub blanks : List ℕ → ℕ
blanks [] = 0
blanks (b ∷ rest) = when blank b then blanks rest + 1 else 0

-- a word starts with these bytes
unfoldable pub starts : List ℕ → List ℕ → Bool
starts [] word = true
starts (b ∷ bytes) [] = false
starts (b ∷ bytes) (c ∷ word) = eqb b c && starts bytes word

-- `Hex-STRING:`
abbrev pub hex_string : List ℕ
hex_string = 72 ∷ 101 ∷ 120 ∷ 45 ∷ 83 ∷ 84 ∷ 82 ∷ 73 ∷ 78 ∷ 71 ∷ 58 ∷ []

-- 0x and 0X
abbrev pub small_0x : List ℕ
small_0x = 48 ∷ 120 ∷ []

abbrev pub large_0x : List ℕ
large_0x = 48 ∷ 88 ∷ []

-- how many bytes say that octets follow
unfoldable pub heading : List ℕ → ℕ
heading word = when starts hex_string word then 11 else when starts small_0x word then 2 else when starts large_0x word then 2 else 0

-- how many bytes stand in front of the octets: blanks, and what says that octets follow
unfoldable pub front : List ℕ → ℕ
front word = blanks word + heading (drop (blanks word) word)

-- what a word writes
unfoldable pub octets_of : List ℕ → Writing
octets_of word = octets_from Nothing (drop (front word) word)

-- what was said of a word: the first octets of the buffer, or that it writes none
abbrev pub said : Option ℕ → List ℕ → Writing
said (Some n) out = octets (take n out)
said None out = none

-- how many octets that is
abbrev pub count : Option ℕ → ℕ
count (Some n) = n
count None = 0

-- what is to be said of a word: what it writes, unless it has more bytes than the buffer
unfoldable pub to_say : List ℕ → List ℕ → Writing
to_say word out = when leb (length word) (length out) then octets_of word else none
