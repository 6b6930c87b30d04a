-- The cut of a text into blanks, comments and tokens, taken from the left: document 01, "Tokens", with refusals 3 to 6.
-- Assumes nothing.
use Rattle.std.specs.Prelude.{List, [], ◌∷◌, ℕ, zero, suc, pred, ◌+◌, get_or, take}
use Rattle.piece.specs.Piece.{Piece, gap, token, refusal, size, piece}
use Rattle.token.specs.Token.{Tok, Meaning, tok, meanings, no_meaning}

-- How the cut ends: at the text's end, or with the refusal of that number at that place.
pub data Ending : Type 0 where
  whole : Ending
  refused : ℕ → ℕ → Ending

-- The tokens in order, up to where the cut ends.
pub record Cut : Type 0 where
  pub tokens : List Tok
  pub ending : Ending

-- the cut of s, at the place `at`, that starts with the piece p and goes on with the cut `rest`
abbrev pub starting_with : ℕ → List ℕ → Piece → Cut → Cut
starting_with at s (gap n) rest = rest
starting_with at s (token c n) rest =
    record { tokens = tok c at (at + n) (take n s) ∷ rest.tokens; ending = rest.ending }
starting_with at s (refusal r d) rest = record { tokens = []; ending = refused r (at + d) }

-- the cut of what is left of a text at the place `at`, of which the first n bytes belong to a piece that started before. Each
-- piece but a refusal has a byte at least, and `pred` counts those after its first
unfoldable pub cut_from : ℕ → ℕ → List ℕ → Cut
cut_from at n [] = record { tokens = []; ending = whole }
cut_from at zero (b ∷ bs) =
    starting_with at (b ∷ bs) (piece (b ∷ bs)) (cut_from (suc at) (pred (size (piece (b ∷ bs)))) bs)
cut_from at (suc n) (b ∷ bs) = cut_from (suc at) n bs

-- the cut of a whole text
unfoldable pub cut : List ℕ → Cut
cut bytes = cut_from 0 0 bytes

-- what the tokens of a text say, in order
abbrev pub meanings_in : List ℕ → List Meaning
meanings_in text = meanings (cut text).tokens

-- what token i says, of what the tokens say
abbrev pub said : List Meaning → ℕ → Meaning
said ms i = get_or ms i no_meaning
