-- The loop that searches from a, below b, and may start past b: it is at i, and nothing that it passed has a hit.
-- Assumes nothing.
use mathlib.Core.Path.{◌≡◌, sym, ◌∙◌}
use mathlib.Core.Bool.{Bool, true, false}
use Prim.Native.Nat.{ℕ, ◌+◌, ◌≤◌, ◌<◌}
use native.Mathlib.Numerals.{add-one}
use Rattle.index.specs.First.{first}
use Rattle.index.proofs.Search.{first_hit, first_miss, first_none}

module _ (test : ℕ → Bool) (a b : ℕ) where
  -- the search from i on finds what the whole search finds
  abbrev pub Passed : ℕ → Type 0
  Passed i = first test i b ≡ first test a b

  -- a miss: the loop goes on
  pub passed_miss : (i : ℕ) → Passed i → i < b → test i ≡ false → Passed (i + 1)
  passed_miss i p h e = rw (add-one i) (sym (first_miss test i b h e) ∙ p)

  -- a hit is the first
  pub passed_hit : (i : ℕ) → Passed i → i < b → test i ≡ true → i ≡ first test a b
  passed_hit i p h e = sym (first_hit test i b h e) ∙ p

  -- no index is left: the loop's own is the answer
  pub passed_end : (i : ℕ) → Passed i → b ≤ i → i ≡ first test a b
  passed_end i p h = sym (first_none test i b h) ∙ p
