-- Trees of entries. An entry is an index that is chosen; it has two children, later entries, and is found from a root by turns: an
-- entry's own bits. A place is an entry counted from 1, or 0 where a walk has ended.
-- Assumes nothing.
use Rattle.std.specs.Prelude.{Bool, true, cond, List, ◌≡◌, ℕ, zero, suc, ◌*◌, ◌/◌, ◌%◌, ◌<◌, get_or}

-- the child of entry j on a side, by the word that holds both; 0 where there is none, since a child is a later entry
abbrev pub child : List ℕ → ℕ → Bool → ℕ
child links j side = cond side (get_or links j 0 / 65536) (get_or links j 0 % 65536)

-- the word of an entry whose only child is entry k, on a side
abbrev pub only_child : Bool → ℕ → ℕ
only_child side k = cond side (k * 65536) k

-- a child as a place
unfoldable pub place_of : ℕ → ℕ
place_of zero = zero
place_of (suc c) = suc (suc c)

-- the place after this one, on a side
unfoldable pub step : List ℕ → ℕ → Bool → ℕ
step links zero side = zero
step links (suc j) side = place_of (child links j side)

-- the place that a walk from a root comes to by the first d turns
unfoldable pub place : List ℕ → ℕ → (ℕ → Bool) → ℕ → ℕ
place links root turn zero = root
place links root turn (suc d) = step links (place links root turn d) (turn d)

-- a place is none, or an entry below k
abbrev pub Inside : (ℕ → Bool) → ℕ → ℕ → Type 0
Inside chosen k at = (j : ℕ) → at ≡ suc j → (j < k) × (chosen j ≡ true)

-- the links hold a tree of the entries below k: each is found by its own turns from its root, and children are later entries
pub record Tree (chosen : ℕ → Bool) (root : ℕ → ℕ) (turn : ℕ → ℕ → Bool) (k : ℕ) (links : List ℕ) : Type 0 where
  pub found : (e : ℕ) → e < k → chosen e ≡ true → (d : ℕ) × (place links (root e) (turn e) d ≡ suc e)
  pub rooted : (e : ℕ) → Inside chosen k (root e)
  pub later : (j c : ℕ) (side : Bool) → j < k → chosen j ≡ true → child links j side ≡ suc c
      → (j < suc c) × (suc c < k) × (chosen (suc c) ≡ true)

-- entry k, which has no children, is the child of entry j on a side, and all other children are as they were
pub record Hung (j : ℕ) (side : Bool) (k : ℕ) (old new : List ℕ) : Type 0 where
  pub own : child new j side ≡ k
  pub none : (s : Bool) → child new k s ≡ 0
  pub other : (i : ℕ) (s : Bool) → (i ≡ k → ⊥) → ((i ≡ j) × (s ≡ side) → ⊥) → child new i s ≡ child old i s
