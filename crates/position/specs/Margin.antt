-- What stands below the bytes of a line up to a place, so that a mark behind it stands below the place: a blank for each character, and a
-- tab or another blank of the text below itself. A character is a well-formed sequence of UTF-8, or else a byte.
-- Assumes nothing.
use Rattle.std.specs.Prelude.{ℕ, zero, suc, ◌+◌, ◌-◌, Bool, cond, ◌&&◌, ◌||◌, List, [], ◌∷◌, ◌++◌, leb, ltb, get_or}
use Rattle.character.specs.Character.{sequence_size}

-- a sequence that starts so many bytes before byte k reaches over it
unfoldable pub reaches : List ℕ → ℕ → ℕ → Bool
reaches text k back = leb back k && ltb back (sequence_size text (k - back))

-- byte k is one of a character's further bytes, of which there are three at most
unfoldable pub is_inside : List ℕ → ℕ → Bool
is_inside text k = reaches text k 1 || (reaches text k 2 || reaches text k 3)

-- what stands below a character that starts with this byte
unfoldable pub below : ℕ → ℕ
below b = cond (leb 9 b && leb b 13) b 32

-- what stands below byte k
unfoldable pub below_byte : List ℕ → ℕ → List ℕ
below_byte text k = cond (is_inside text k) [] (below (get_or text k 0) ∷ [])

-- what stands below the n bytes from start on
unfoldable pub margin : List ℕ → ℕ → ℕ → List ℕ
margin text start zero = []
margin text start (suc n) = margin text start n ++ below_byte text (start + n)
