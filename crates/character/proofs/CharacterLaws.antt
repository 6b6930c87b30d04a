-- A character has four octets at most.
-- Assumes nothing.
use Prim.Native.Nat.{ℕ, ◌≤◌}
use Prim.Native.Char.{code}
use mathlib.Core.Bool.{Bool, true, false, cond}
use mathlib.Core.List.{List}
use lib.Dec.{ltb, eqb, lit≤}
use Rattle.buffer.specs.Buffer.{byte_at}
use Rattle.character.specs.Character.{between, lead_size, tails, sequence_size, character_size}

lead_small : (b : ℕ) → lead_size b ≤ 4
unfolding lead_size
lead_small b = go (ltb b 0x80) (between 0xC2 0xDF b) (between 0xE0 0xEF b) (between 0xF0 0xF4 b)
  where
    go : (one two three four : Bool) → cond one 1 (cond two 2 (cond three 3 (cond four 4 0))) ≤ 4
    go true two three four = lit≤ tt
    go false true three four = lit≤ tt
    go false false true four = lit≤ tt
    go false false false true = lit≤ tt
    go false false false false = lit≤ tt

pub character_small : (format : ℕ) (octets : List ℕ) (i : ℕ) → character_size format octets i ≤ 4
unfolding character_size sequence_size
character_small format octets i = go (eqb format (code "a")) (ltb (byte_at octets i) 0x80) (tails octets i)
  where
    go : (ascii low whole : Bool) → cond ascii (cond low 1 0) (cond whole (lead_size (byte_at octets i)) 0) ≤ 4
    go true true whole = lit≤ tt
    go true false whole = lit≤ tt
    go false low true = lead_small (byte_at octets i)
    go false low false = lit≤ tt
