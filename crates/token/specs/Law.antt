-- What every token of a text is, in the words that the layers above rely on.
-- Assumes nothing.
use Rattle.std.specs.Prelude.{◌≡◌, ◌⊎◌, true, List, [], ◌∷◌, ℕ, suc, ◌≤◌, ◌<◌, T, pos, neg_ℤ, length, get_or}
use Rattle.terminal.specs.Terminal.{terminals, number, negative, text}
use Rattle.lexicon.specs.Byte.{class_of, quote, text_byte}
use Rattle.lexicon.specs.Word.{longest_name, is_name, between}
use Rattle.piece.specs.Piece.{largest_number, largest_negative}
use Rattle.token.specs.Token.{Tok, tok}
use Rattle.token.specs.Cut.{cut}

-- what every token of a text is
pub record Sound (bytes : List ℕ) (t : Tok) : Type 0 where
  -- its class, its place and the text's bytes there make it
  pub made : t ≡ tok t.says.class t.start t.end (between bytes t.start t.end)
  -- it has a byte at least, and lies in the text
  pub nonempty : t.start < t.end
  pub inside : t.end ≤ length bytes
  -- its class is a terminal
  pub terminal : t.says.class < terminals
  -- a name has 1 to 64 bytes
  pub name_bytes : T (is_name t.says.class) → (1 ≤ length t.says.spelling) × (length t.says.spelling ≤ longest_name)
  -- a text starts with a quote
  pub text_quote : t.says.class ≡ text → class_of (get_or bytes t.start 0) ≡ quote
  -- a number is in range
  pub number_range : t.says.class ≡ number → (n : ℕ) × (t.says.value ≡ pos n) × (n ≤ largest_number)
  pub negative_range : t.says.class ≡ negative → (n : ℕ) × (t.says.value ≡ neg_ℤ (pos n)) × (n ≤ largest_negative)

-- tokens of the text, one after the other, none before the place `from`
abbrev pub Rising : List ℕ → ℕ → List Tok → Type 0
Rising bytes from [] = Unit {0}
Rising bytes from (t ∷ ts) = (from ≤ t.start) × Sound bytes t × Rising bytes t.end ts

-- the place i lies strictly inside a text token: after its first quote and before its last
abbrev pub InsideText : ℕ → List Tok → Type 0
InsideText i [] = ⊥
InsideText i (t ∷ ts) = ((t.says.class ≡ text) × (t.start < i) × (suc i < t.end)) ⊎ InsideText i ts

-- two texts of equal length that differ only at places strictly inside text tokens of the first, where the second has bytes
-- that may stand in a text
pub record QuotedChange (a b : List ℕ) : Type 0 where
  pub same_length : length a ≡ length b
  pub same_or_quoted : (i : ℕ) → i < length a → (get_or a i 0 ≡ get_or b i 0) ⊎ (InsideText i (cut a).tokens × (text_byte (get_or b i 0) 0 ≡ true))
