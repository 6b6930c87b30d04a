-- Bytes of a text or a buffer, and what a buffer holds once bytes have been written to it.
-- Assumes nothing.
use Rattle.std.specs.Prelude.{ℕ, ◌+◌, List, ◌++◌, ◌≡◌, length, get_or, take, drop}

-- the byte at a place, or 0 past the end
abbrev pub byte_at : List ℕ → ℕ → ℕ
byte_at s i = get_or s i 0

-- the buffer with the bytes written from a place on, and every other byte as it was
unfoldable pub written : List ℕ → ℕ → List ℕ → List ℕ
written buffer at bytes = take at buffer ++ (bytes ++ drop (at + length bytes) buffer)

-- the bytes are written at a place, and the place after them is answered
pub record Wrote (bytes : List ℕ) (at next : ℕ) (before after : List ℕ) : Type 0 where
  pub next_is : next ≡ at + length bytes
  pub buffer_is : after ≡ written before at bytes
