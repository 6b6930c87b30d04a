-- Entries chained by their keys, the latest first, so that a search passes only entries of its own key.
-- Assumes nothing.
use Rattle.std.specs.Prelude.{Bool, cond, List, ◌≡◌, ℕ, zero, suc, ◌<◌, eqb, length, get_or}

-- how many keys there are
abbrev pub key_count : ℕ
key_count = 256

-- the most entries that can be chained
abbrev pub most_entries : ℕ
most_entries = 512

-- one more than the last index below k where the test holds; 0 where it holds at none
unfoldable pub last_before : (ℕ → Bool) → ℕ → ℕ
last_before test zero = zero
last_before test (suc k) = cond (test k) (suc k) (last_before test k)

-- the two arrays chain the first k entries, of these keys: a key's head is its last entry, and an entry's link is the one of the
-- same key before it; both are counted from 1, so that 0 is none
pub record Chained (key : ℕ → ℕ) (k : ℕ) (heads links : List ℕ) : Type 0 where
  pub heads_long : length heads ≡ key_count
  pub links_long : length links ≡ most_entries
  pub head : (h : ℕ) → h < key_count → get_or heads h 0 ≡ last_before (λ (j : ℕ). eqb (key j) h) k
  pub link : (j : ℕ) → j < k → get_or links j 0 ≡ last_before (λ (i : ℕ). eqb (key i) (key j)) j
