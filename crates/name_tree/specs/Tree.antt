-- The names of a text in trees by their bits, a tree for each key. An entry is an index that is chosen: that of a token, by which the
-- name's start and end are found.
-- Assumes nothing.
use Rattle.std.specs.Prelude.{Bool, true, false, ◌&&◌, List, ◌≡◌, ℕ, suc, ◌+◌, ◌≤◌, ◌<◌, length, get_or}
use Rattle.lexicon.specs.Word.{same, between, Within}
use Rattle.bit_tree.specs.Bit.{name_bit}
use Rattle.bit_tree.specs.Tree.{Tree}
use Rattle.name_tree.specs.Key.{key_count, name_key}

-- the name of entry j, by where names start and end in a text
abbrev pub part_at : List ℕ → List ℕ → List ℕ → ℕ → List ℕ
part_at text starts ends j = between text (get_or starts j 0) (get_or ends j 0)

-- it lies in the text
pub record Placed (text starts ends : List ℕ) (j : ℕ) : Type 0 where
  pub has_start : j < length starts
  pub has_end : j < length ends
  pub within : Within text (get_or starts j 0) (get_or ends j 0)

-- index j has the name s
abbrev pub is_named : List ℕ → List ℕ → List ℕ → List ℕ → ℕ → Bool
is_named text starts ends s j = same (part_at text starts ends j) s

-- the root of the tree of entry j's key, counted from 1; 0 where there is none
abbrev pub root_at : List ℕ → List ℕ → List ℕ → List ℕ → ℕ → ℕ
root_at text starts ends heads j = get_or heads (name_key (part_at text starts ends j)) 0

-- the turns of entry j: the bits of its name
abbrev pub turns_at : List ℕ → List ℕ → List ℕ → ℕ → ℕ → Bool
turns_at text starts ends j = name_bit (part_at text starts ends j)

-- the names of the entries below k are in trees
pub record NameTree (chosen : ℕ → Bool) (text starts ends : List ℕ) (k : ℕ) (heads links : List ℕ) : Type 0 where
  pub heads_long : length heads ≡ key_count
  pub tree : Tree chosen (root_at text starts ends heads) (turns_at text starts ends) k links
  pub placed : (j : ℕ) → j < k → chosen j ≡ true → Placed text starts ends j
  pub room : k ≤ length links

-- whichever indices are entries
abbrev pub SomeTree : List ℕ → List ℕ → List ℕ → ℕ → List ℕ → List ℕ → Type 0
SomeTree text starts ends k heads links = (chosen : ℕ → Bool) × NameTree chosen text starts ends k heads links

-- entry j has the name of entry k
abbrev pub has_name_of : (ℕ → Bool) → List ℕ → List ℕ → List ℕ → ℕ → ℕ → Bool
has_name_of chosen text starts ends k j = chosen j && is_named text starts ends (part_at text starts ends k) j

-- the answer to entry k: one more than an earlier entry that has its name; or 0 where none has, and it is in the trees
pub record Admitted (chosen : ℕ → Bool) (text starts ends : List ℕ) (k : ℕ) (heads links : List ℕ) (r : ℕ) : Type 0 where
  pub again : (j : ℕ) → r ≡ suc j → (j < k) × (has_name_of chosen text starts ends k j ≡ true)
  pub fresh : r ≡ 0 → (j : ℕ) → j < k → has_name_of chosen text starts ends k j ≡ false
  pub grown : r ≡ 0 → chosen k ≡ true → NameTree chosen text starts ends (k + 1) heads links

-- whichever indices are entries
abbrev pub Admits : List ℕ → List ℕ → List ℕ → ℕ → List ℕ → List ℕ → List ℕ → List ℕ → ℕ → Type 0
Admits text starts ends k heads links heads' links' r =
    (chosen : ℕ → Bool) → NameTree chosen text starts ends k heads links → Admitted chosen text starts ends k heads' links' r
