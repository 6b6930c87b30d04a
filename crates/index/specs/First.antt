-- Searches by index: the first index from a on, below b, where a test holds; whether there is one; whether the test holds at
-- all of them; and those where it does.
-- Assumes nothing.
use Rattle.std.specs.Prelude.{Bool, cond, not, List, [], ◌∷◌, ◌≡◌, ℕ, zero, suc, ◌-◌, ◌≤◌, ◌<◌, ltb, length, get_or}

-- the first of n indices from a on where the test holds, or the index after them
unfoldable pub first_of : (ℕ → Bool) → ℕ → ℕ → ℕ
first_of test a zero = a
first_of test a (suc n) = cond (test a) a (first_of test (suc a) n)

-- the first index from a on, below b, where the test holds; b where it holds at none
unfoldable pub first : (ℕ → Bool) → ℕ → ℕ → ℕ
first test a b = first_of test a (b - a)

-- the test holds at some index from a on, below b
unfoldable pub any : (ℕ → Bool) → ℕ → ℕ → Bool
any test a b = ltb (first test a b) b

-- the test holds at every index from a on, below b
unfoldable pub all : (ℕ → Bool) → ℕ → ℕ → Bool
all test a b = not (any (λ (i : ℕ). not (test i)) a b)

-- those of n indices from a on where the test holds, in rising order
unfoldable pub hits_of : (ℕ → Bool) → ℕ → ℕ → List ℕ
hits_of test a zero = []
hits_of test a (suc n) = cond (test a) (a ∷ hits_of test (suc a) n) (hits_of test (suc a) n)

-- the indices from a on, below b, where the test holds, in rising order
unfoldable pub hits : (ℕ → Bool) → ℕ → ℕ → List ℕ
hits test a b = hits_of test a (b - a)

-- the first n entries of an array are a list
pub record Listed (list array : List ℕ) (n : ℕ) : Type 0 where
  pub counted : length list ≡ n
  pub room : n ≤ length array
  pub entry : (k : ℕ) → k < n → get_or array k 0 ≡ get_or list k 0
