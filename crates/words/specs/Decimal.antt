-- What a word is as a decimal number. Assumes nothing.
use Rattle.std.specs.Prelude.{ℕ, ℤ, ◌+◌, ◌-◌, ◌*◌, ◌<◌, Bool, true, cond, ◌&&◌, Result, Ok, Err, List, [], ◌∷◌, leb, ltb, eqb, pos, neg_ℤ, length, get_or, drop}
use Rattle.words.specs.declared.number.NumberError.{NumberError}
use Rattle.words.specs.declared.number.NumberError.TheVariants.{TooLarge, TooSmall, NoNumber}

-- a decimal digit
abbrev pub digit : ℕ → Bool
digit b = leb 48 b && leb b 57

-- each byte is a digit
unfoldable pub all_digits : List ℕ → Bool
all_digits [] = true
all_digits (b ∷ bs) = digit b && all_digits bs

-- the value of digits, the most significant first, behind digits of the value n
unfoldable pub decimal_after : ℕ → List ℕ → ℕ
decimal_after n [] = n
decimal_after n (d ∷ ds) = decimal_after (n * 10 + (d - 48)) ds

-- the least number of 19 digits: from here on numbers are not told apart
abbrev pub limit : ℕ
limit = 1000000000000000000

-- digits as a number, or that they are beyond the limit
abbrev pub within : ℕ → Result ℕ NumberError
within n = cond (ltb n limit) (Ok n) (Err TooLarge)

-- a word as a number without a sign: at least one byte, and each a digit
unfoldable pub natural_of : List ℕ → Result ℕ NumberError
natural_of word = cond (ltb 0 (length word) && all_digits word) (within (decimal_after 0 word)) (Err NoNumber)

-- it is below the limit, where it is a number
abbrev pub Small : Result ℕ NumberError → Type 0
Small (Ok n) = n < limit
Small (Err error) = Unit {0}

-- a number without a minus
abbrev pub above : Result ℕ NumberError → Result ℤ NumberError
above (Ok n) = Ok (pos n)
above (Err error) = Err error

-- beyond the limit with a minus
abbrev pub turned : NumberError → NumberError
turned TooLarge = TooSmall
turned TooSmall = TooSmall
turned NoNumber = NoNumber

-- a number with a minus
abbrev pub below : Result ℕ NumberError → Result ℤ NumberError
below (Ok n) = Ok (neg_ℤ (pos n))
below (Err error) = Err (turned error)

-- a word as a number: a minus (45) before the digits or not
unfoldable pub number_of : List ℕ → Result ℤ NumberError
number_of word = cond (eqb (get_or word 0 0) 45) (below (natural_of (drop 1 word))) (above (natural_of word))
