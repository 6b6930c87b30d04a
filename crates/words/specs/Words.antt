-- The words of a line, with a separator between them. Assumes nothing.
use Rattle.std.specs.Prelude.{ℕ, zero, suc, ◌+◌, ◌-◌, ◌≤◌, ◌<◌, ◌≡◌, cond, Option, Some, None, List, [], ◌∷◌, eqb, length, get_or, take, drop, slice_range}
use Rattle.std.specs.List.{position_or_len}
use Rattle.words.specs.declared.word.Place.{Place}

-- a byte in front of the first of some words
abbrev pub in_front : ℕ → List (List ℕ) → List (List ℕ)
in_front b [] = (b ∷ []) ∷ []
in_front b (word ∷ rest) = (b ∷ word) ∷ rest

-- the words of a line: a separator ends a word, any other byte belongs to its word; an empty line has one word, an empty one
unfoldable pub words : ℕ → List ℕ → List (List ℕ)
words separator [] = [] ∷ []
words separator (b ∷ line) = cond (eqb b separator) ([] ∷ words separator line) (in_front b (words separator line))

-- where the word that starts at an index ends: before the next separator, or where the line does
abbrev pub word_end : ℕ → List ℕ → ℕ → ℕ
word_end separator line from = from + position_or_len (λ b. eqb b separator) (slice_range line from (length line))

-- where the word of an index stands, if the first starts at `from` and the next one byte behind its end; or there are not so many
unfoldable pub place : ℕ → List (List ℕ) → ℕ → Option Place
place from [] index = None
place from (word ∷ rest) zero = Some (record { from = from; to = from + length word })
place from (word ∷ rest) (suc index) = place (from + length word + 1) rest index

-- the bytes of a line from one index up to, not including, the other
abbrev pub between : ℕ → ℕ → List ℕ → List ℕ
between from to line = take (to - from) (drop from line)

-- the bytes from one index up to the other lie in the line, and are the word of that index
pub record Stands (line : List ℕ) (all : List (List ℕ)) (index from to : ℕ) : Type 0 where
  pub ordered : from ≤ to
  pub inside : to ≤ length line
  pub counted : index < length all
  pub bytes : between from to line ≡ get_or all index []

-- so for a word that was found; one is missing where there are not so many
abbrev pub Found : List ℕ → List (List ℕ) → ℕ → Option Place → Type 0
Found line all index (Some at) = Stands line all index at.from at.to
Found line all index None = length all ≤ index
