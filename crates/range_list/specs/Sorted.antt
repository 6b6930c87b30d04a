-- The ranges of a restriction in rising order, so that a range is compared with few of those before it. `order` holds the tokens that they
-- start with, and its first `count` entries are in use.
-- Assumes nothing.
use Rattle.std.specs.Prelude.{true, false, List, ◌≡◌, ℕ, ◌+◌, ◌-◌, ◌≤◌, ◌<◌, get_or, Option, None, Some}
use Rattle.sub_type.specs.Range.{starts_range}
use Rattle.range_list.specs.Misplaced.{is_below, is_misplaced}

-- the range of entry k
abbrev pub range_at : List ℕ → ℕ → ℕ
range_at order k = get_or order k 0

-- the ranges rise: of any two the later lies above the earlier, and none is wrong in itself
pub record Rising (cs vs : List ℕ) (count : ℕ) (order : List ℕ) : Type 0 where
  pub small : (k : ℕ) → k < count → range_at order k < 65536
  pub right : (k : ℕ) → k < count → is_below cs vs (range_at order k) (range_at order k) ≡ false
  pub below : (j k : ℕ) → j < k → k < count → is_below cs vs (range_at order j) (range_at order k) ≡ true

-- they are those that start from token `from` on, before this one
pub record Gathered (cs vs : List ℕ) (from token count : ℕ) (order : List ℕ) : Type 0 where
  pub rising : Rising cs vs count order
  pub after : from ≤ token
  pub few : count ≤ token - from
  pub each : (k : ℕ) → k < count → (from ≤ range_at order k) × (range_at order k < token) × (starts_range cs (range_at order k) ≡ true)
  pub all : (i : ℕ) → from ≤ i → i < token → starts_range cs i ≡ true → (k : ℕ) × (k < count) × (range_at order k ≡ i)

-- where a range belongs: those before lie below it, and the next, if any, does not
pub record Belongs (cs vs : List ℕ) (count : ℕ) (order : List ℕ) (token at : ℕ) : Type 0 where
  pub inside : at ≤ count
  pub before : (k : ℕ) → k < at → is_below cs vs (range_at order k) token ≡ true
  pub next : at < count → is_below cs vs (range_at order at) token ≡ false

-- it is put in there, and those from there on are moved by one
pub record Inserted (count at token : ℕ) (before after : List ℕ) : Type 0 where
  pub earlier : (k : ℕ) → k < at → range_at after k ≡ range_at before k
  pub own : range_at after at ≡ token
  pub later : (k : ℕ) → at ≤ k → k < count → range_at after (k + 1) ≡ range_at before k

-- the answer to a token: that it is misplaced; or how many ranges there are with it
abbrev pub Admitted : List ℕ → List ℕ → ℕ → ℕ → List ℕ → Option ℕ → Type 0
Admitted cs vs from token order None = is_misplaced cs vs from token ≡ true
Admitted cs vs from token order (Some count) = (is_misplaced cs vs from token ≡ false) × Gathered cs vs from (token + 1) count order
