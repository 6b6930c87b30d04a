-- What a word is as a flag. Assumes nothing.
use Rattle.std.specs.Prelude.{ℕ, ◌≡◌, Bool, true, false, Option, Some, None, List, [], ◌∷◌}

-- the word yes
abbrev pub yes : List ℕ
yes = 121 ∷ 101 ∷ 115 ∷ []

-- the word no
abbrev pub no : List ℕ
no = 110 ∷ 111 ∷ []

-- yes is true, no is false, and a word that is neither is no flag
abbrev pub Means : List ℕ → Option Bool → Type 0
Means word (Some true) = word ≡ yes
Means word (Some false) = word ≡ no
Means word None = (word ≡ yes → ⊥) × (word ≡ no → ⊥)
