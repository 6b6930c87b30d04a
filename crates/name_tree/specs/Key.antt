-- The keys of names. A key reads all bytes of a name, so that neither a shared beginning nor a shared ending puts names together.
-- Assumes nothing.
use Rattle.std.specs.Prelude.{List, [], ◌∷◌, ℕ, ◌+◌, ◌*◌, ◌%◌}

-- how many keys there are
abbrev pub key_count : ℕ
key_count = 1024

-- the key of bytes with one byte more
abbrev pub key_step : ℕ → ℕ → ℕ
key_step key byte = (key * 31 + byte) % key_count

-- the key of bytes that follow bytes of this key
unfoldable pub key_after : ℕ → List ℕ → ℕ
key_after key [] = key
key_after key (b ∷ bs) = key_after (key_step key b) bs

-- the key of a name
abbrev pub name_key : List ℕ → ℕ
name_key s = key_after 0 s
