-- The items of an enumeration in a tree by the bits of their labels, or of their numbers, so that an item is compared with few before
-- it. An entry is a token counted from `base`, where the enumeration starts: the first token, which is the root, and the labels.
-- Assumes nothing.
use Rattle.std.specs.Prelude.{Bool, false, ◌||◌, List, ◌≡◌, ℕ, ◌+◌, ◌-◌, ◌≤◌, eqb, ltb, length, get_or}
use Rattle.bit_tree.specs.Bit.{bit, name_bit}
use Rattle.bit_tree.specs.Tree.{Tree}
use Rattle.definition.specs.Members.{is_name}
use Rattle.index.specs.Choice.{when◌then◌else◌}
use Rattle.enumeration.specs.Item.{Spelling, spelled}

-- entry j of the tree
abbrev pub is_entry : List ℕ → ℕ → ℕ → Bool
is_entry cs base j = eqb j 0 || is_name cs (base + j)

-- the root of a tree of the first k entries, counted from 1; 0 where there are none
abbrev pub root_of : ℕ → ℕ
root_of k = when ltb k 1 then k else 1

-- the turns of token i: the bits of its label, or those of its number's magnitude
abbrev pub label_turns : Spelling → ℕ → ℕ → Bool
label_turns x i = name_bit (spelled x i)

abbrev pub number_turns : List ℕ → ℕ → ℕ → Bool
number_turns vs i = bit (get_or vs (i + 2) 0)

-- the tokens from `base` on, before this one, are in the tree
pub record Ready (cs : List ℕ) (turns : ℕ → ℕ → Bool) (base token : ℕ) (links : List ℕ) : Type 0 where
  pub tree : Tree (is_entry cs base) (λ (j : ℕ). root_of (token - base)) (λ (j : ℕ). turns (base + j)) (token - base) links
  pub after : base ≤ token
  pub fresh : token ≡ base → get_or links 0 0 ≡ 0

-- the answer to a token: whether an earlier one is alike; and where none is, it is in the tree
pub record Answered (again : Bool) (cs : List ℕ) (turns : ℕ → ℕ → Bool) (base token : ℕ) (links : List ℕ) (r : Bool) : Type 0 where
  pub is : r ≡ again
  pub ready : r ≡ false → Ready cs turns base (token + 1) links

-- what a search through a span asks of the words that it is lent: the first is clear, and there is one for each token
pub record Clear (from to : ℕ) (links : List ℕ) : Type 0 where
  pub fresh : get_or links 0 0 ≡ 0
  pub room : to - from ≤ length links
