-- Characters among octets: of format a one octet from 0 to 127, of format t a well-formed sequence of UTF-8 (RFC 3629,
-- section 4).
-- Assumes nothing.
use Rattle.std.specs.Prelude.{ℕ, ◌+◌, Bool, cond, ◌&&◌, ◌||◌, List, leb, ltb, eqb, length}
use Prim.Native.Char.{code}
use Rattle.index.specs.Choice.{when◌then◌else◌}
use Rattle.buffer.specs.Buffer.{byte_at}
use Rattle.character.specs.Cut.{Cut, cut}

-- an octet from low to high
unfoldable pub between : ℕ → ℕ → ℕ → Bool
between low high b = leb low b && leb b high

-- UTF8-tail
unfoldable pub tail : ℕ → Bool
tail b = between 0x80 0xBF b

-- how many octets a sequence with this first octet has; 0: no sequence starts with it
unfoldable pub lead_size : ℕ → ℕ
lead_size b =
    when ltb b 0x80 then 1
    else when between 0xC2 0xDF b then 2
    else when between 0xE0 0xEF b then 3
    else when between 0xF0 0xF4 b then 4
    else 0

-- the least second octet after a first one: a tail, without the overlong forms (E0, F0)
unfoldable pub second_low : ℕ → ℕ
second_low lead = when eqb lead 0xE0 then 0xA0 else when eqb lead 0xF0 then 0x90 else 0x80

-- the greatest second octet after a first one: a tail, without the surrogates (ED) and what lies above 10FFFF (F4)
unfoldable pub second_high : ℕ → ℕ
second_high lead = when eqb lead 0xED then 0x9F else when eqb lead 0xF4 then 0x8F else 0xBF

-- the octets after the first are as the first asks. An octet past the end reads as 0, which is no tail: a sequence that
-- isn't whole fails
unfoldable pub tails : List ℕ → ℕ → Bool
tails octets i =
    (leb (lead_size (byte_at octets i)) 1
    || between (second_low (byte_at octets i)) (second_high (byte_at octets i)) (byte_at octets (i + 1)))
    && (leb (lead_size (byte_at octets i)) 2 || tail (byte_at octets (i + 2)))
    && (leb (lead_size (byte_at octets i)) 3 || tail (byte_at octets (i + 3)))

-- how many octets the well-formed sequence at i has, 0 where there is none
unfoldable pub sequence_size : List ℕ → ℕ → ℕ
sequence_size octets i = cond (tails octets i) (lead_size (byte_at octets i)) 0

-- how many octets the character at i has under a format, 0 where there is none
unfoldable pub character_size : ℕ → List ℕ → ℕ → ℕ
character_size format octets i =
    when eqb format (code "a") then (when ltb (byte_at octets i) 0x80 then 1 else 0) else sequence_size octets i

-- octets cut into characters of a format
abbrev pub characters : ℕ → List ℕ → Cut
characters format octets = cut (character_size format octets) (length octets)
