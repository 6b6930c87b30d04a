-- Digits read one by one from the left, with the value kept below a limit. Assumes nothing.
use Prim.Native.Nat.{ℕ, ◌+◌, ◌-◌, ◌*◌, ◌≤◌, ◌<◌, min}
use mathlib.Core.Path.{◌≡◌, refl, sym, ◌∙◌, ap}
use mathlib.Core.Bool.{Bool, true, false, ◌&&◌, cond, false≢true}
use mathlib.Core.List.{List, [], ◌∷◌}
use mathlib.Core.Logic.{◌⊎◌, inl, inr}
use native.Mathlib.Omega.{arith}
use lib.ListN.{length, get_or, take, drop}
use lib.Dec.{leb, ltb, eqb}
use borrow.Author.Tests.{leb-true, leb-false, lt-ltb, le-ltb, ltb-true}
use Rattle.std.specs.Cmp.Lexicographic.{pointwise}
use Rattle.std.specs.List.{list_all}
use Rattle.std.proofs.lemmas.List.Recursion.{same_from_clauses}
use Rattle.words.proofs.Left.{left, ended}
use Rattle.words.specs.Decimal.{digit, all_digits, decimal_after, limit, within, natural_of, number_of, above, below, Small}
use Rattle.std.specs.Prelude.{Result, Ok, Err}
use Rattle.words.specs.declared.number.NumberError.{NumberError}
use Rattle.words.specs.declared.number.NumberError.TheVariants.{TooLarge, NoNumber}

-- the digits that are left, and their value, are those of the byte there and of what is left behind it
pub digits_left : (word : List ℕ) (i : ℕ) → i < length word
    → all_digits (drop i word) ≡ digit (get_or word i 0) && all_digits (drop (i + 1) word)
unfolding all_digits
digits_left word i inside = ap all_digits (left word i inside)

pub value_left : (n : ℕ) (word : List ℕ) (i : ℕ) → i < length word
    → decimal_after n (drop i word) ≡ decimal_after (n * 10 + (get_or word i 0 - 48)) (drop (i + 1) word)
unfolding decimal_after
value_left n word i inside = ap (decimal_after n) (left word i inside)

-- a value never falls as digits are read
pub grows : (n : ℕ) (ds : List ℕ) → n ≤ decimal_after n ds
unfolding decimal_after
grows n [] = omega arith
grows n (d ∷ ds) = omega (arith, grows (n * 10 + (d - 48)) ds)

capped : (n : ℕ) (ds : List ℕ) → (n ≤ limit) ⊎ (limit ≤ n)
    → min (decimal_after (min n limit) ds) limit ≡ min (decimal_after n ds) limit
capped n ds (inl small) = let same : min n limit ≡ n = omega arith in rw same
capped n ds (inr large) =
    let same : min n limit ≡ limit = omega arith in
    rw same (omega (arith, grows limit ds, grows n ds))

split : (n : ℕ) (b : Bool) → leb n limit ≡ b → (n ≤ limit) ⊎ (limit ≤ n)
split n true test = inl (leb-true n limit test)
split n false test = inr (omega (arith, leb-false n limit test))

-- so a value that has reached the limit may stay there
pub saturated : (n : ℕ) (ds : List ℕ) → min (decimal_after (min n limit) ds) limit ≡ min (decimal_after n ds) limit
saturated n ds = capped n ds (split n (leb n limit) refl)

-- nothing is left behind the last byte
pub value_ended : (n : ℕ) (word : List ℕ) (i : ℕ) → i ≤ length word → length word ≤ i → decimal_after n (drop i word) ≡ n
unfolding decimal_after
value_ended n word i low high = ap (decimal_after n) (ended word i low high)

left_true : (a b : Bool) → (a && b) ≡ true → a ≡ true
left_true true b both = refl
left_true false b both = both

right_true : (a b : Bool) → (a && b) ≡ true → b ≡ true
right_true true b both = both
right_true false b both = absurd (false≢true both)

-- where all that is left is digits, the first byte is one, and the rest are
pub first_digit : (word : List ℕ) (i : ℕ) → i < length word → all_digits (drop i word) ≡ true → 48 ≤ get_or word i 0
first_digit word i inside digits =
    leb-true _ _ (left_true _ _ (left_true (digit (get_or word i 0)) _ (sym (digits_left word i inside) ∙ digits)))

pub rest_digits : (word : List ℕ) (i : ℕ) → i < length word → all_digits (drop i word) ≡ true
    → all_digits (drop (i + 1) word) ≡ true
rest_digits word i inside digits = right_true (digit (get_or word i 0)) _ (sym (digits_left word i inside) ∙ digits)

-- one digit more: what is left makes the same value, up to the limit
pub one_more : (n : ℕ) (word : List ℕ) (i : ℕ) → i < length word
    → min (decimal_after (min (n * 10 + (get_or word i 0 - 48)) limit) (drop (i + 1) word)) limit
    ≡ min (decimal_after n (drop i word)) limit
one_more n word i inside =
    saturated (n * 10 + (get_or word i 0 - 48)) (drop (i + 1) word)
    ∙ ap (λ (v : ℕ). min v limit) (sym (value_left n word i inside))

-- where a word is digits, each of its bytes is one
pub all_are : (ds : List ℕ) → (ltb 0 (length ds) && all_digits ds) ≡ true → all_digits ds ≡ true
all_are ds digits = right_true (ltb 0 (length ds)) (all_digits ds) digits

-- a word as a number, by what its bytes are
pub others_are_not : (ds : List ℕ) → (ltb 0 (length ds) && all_digits ds) ≡ false → natural_of ds ≡ Err NoNumber
unfolding natural_of
others_are_not ds others = simp others

pub small_digits : (ds : List ℕ) (n : ℕ) → (ltb 0 (length ds) && all_digits ds) ≡ true → n ≡ min (decimal_after 0 ds) limit
    → n < limit → natural_of ds ≡ Ok n
unfolding natural_of
small_digits ds n digits capped small =
    let same : decimal_after 0 ds ≡ n = omega arith in
    simp (digits, same, lt-ltb _ _ small)

pub large_digits : (ds : List ℕ) (n : ℕ) → (ltb 0 (length ds) && all_digits ds) ≡ true → n ≡ min (decimal_after 0 ds) limit
    → limit ≤ n → natural_of ds ≡ Err TooLarge
unfolding natural_of
large_digits ds n digits capped large =
    let beyond : limit ≤ decimal_after 0 ds = omega arith in
    simp (digits, le-ltb _ _ beyond)

-- the definition's digits are what `all` tests
pub all_digits_is : (ds : List ℕ) → list_all digit ds ≡ all_digits ds
unfolding all_digits
all_digits_is = same_from_clauses (list_all digit) all_digits (λ b t. digit b && t) refl (λ _ _. refl) (λ _ _. refl)

small_within : (n : ℕ) (b : Bool) → ltb n limit ≡ b → Small (cond b (Ok n) (Err TooLarge))
small_within n true test = ltb-true n limit test
small_within n false test = tt

small_if : (a : Bool) (n : Result ℕ NumberError) → Small n → Small (cond a n (Err NoNumber))
small_if true n small = small
small_if false n small = tt

pub always_small : (ds : List ℕ) → Small (natural_of ds)
unfolding natural_of
always_small ds =
    small_if (ltb 0 (length ds) && all_digits ds) (within (decimal_after 0 ds))
    (small_within (decimal_after 0 ds) (ltb (decimal_after 0 ds) limit) refl)

-- the prefix of a minus is a first byte that is one
minus_is : (word : List ℕ) → pointwise eqb (take 1 word) (45 ∷ []) ≡ eqb (get_or word 0 0) 45
minus_is [] = refl
minus_is (b ∷ bs) = and_true (eqb b 45)
  where
    and_true : (t : Bool) → (t && true) ≡ t
    and_true true = refl
    and_true false = refl

pub minus_first : (word : List ℕ) → pointwise eqb (take 1 word) (45 ∷ []) ≡ true → number_of word ≡ below (natural_of (drop 1 word))
unfolding number_of
minus_first word minus = let first = sym (minus_is word) ∙ minus in simp first

pub digits_first : (word : List ℕ) → pointwise eqb (take 1 word) (45 ∷ []) ≡ false → number_of word ≡ above (natural_of word)
unfolding number_of
digits_first word other = let first = sym (minus_is word) ∙ other in simp first
