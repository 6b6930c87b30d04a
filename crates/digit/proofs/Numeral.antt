-- Digits read back are the number, at any base from 2 to 16; and the first is 0 of no number but 0.
-- Assumes nothing.
use Prim.Native.Nat.{ℕ, zero, suc, ◌+◌, ◌-◌, ◌*◌, ◌/◌, ◌%◌, ◌≤◌, ◌<◌}
use Prim.Native.Char.{code}
use native.Mathlib.Nat.{mod-lt, le-div_iff_mul-le, div-add-mod', not-suc-le-zero}
use native.Mathlib.Omega.{arith}
use mathlib.Core.Path.{◌≡◌, refl, ap, ◌∙◌}
use mathlib.Core.Bool.{Bool, true, false, cond}
use mathlib.Core.List.{List, [], ◌∷◌, ◌++◌}
use lib.Dec.{ltb}
use lib.ListN.{get_or}
use borrow.Author.Tests.{le-leb, lt-leb, ltb-true, ltb-false}
use Rattle.digit.specs.Digits.{glyph, digits, digits_within, digit_value, numeral}
use Rattle.digit.proofs.DigitLaws.{quotient_less, digits_last}

value_glyph : (d : ℕ) → d < 16 → digit_value (glyph d) ≡ d
unfolding digit_value glyph
value_glyph d h = go (ltb d 10) refl
  where
    go : (t : Bool) → ltb d 10 ≡ t → digit_value (cond t (code "0" + d) (code "a" + (d - 10))) ≡ d
    go true e = rw (le-leb (code "0" + d) (code "9") (omega (arith, ltb-true d 10 e))) (omega arith)
    go false e = rw (lt-leb (code "a" + (d - 10)) (code "9") (omega arith)) (omega (arith, ltb-false d 10 e))

numeral_last : (base n : ℕ) (ds : List ℕ) (d : ℕ) → numeral base n (ds ++ (d ∷ [])) ≡ numeral base n ds * base + digit_value d
unfolding numeral
numeral_last base n [] d = refl
numeral_last base n (x ∷ ds) d = numeral_last base (n * base + digit_value x) ds d

within_back : (base steps n : ℕ) → 2 ≤ base → base ≤ 16 → n < steps → numeral base 0 (digits_within steps base n) ≡ n
unfolding digits_within numeral
within_back base zero n two small h = absurd (not-suc-le-zero h)
within_back base (suc steps) n two small h = go (λ (m : ℕ) (l : m < steps). within_back base steps m two small l) (ltb n base) refl
  where
    go : ((m : ℕ) → m < steps → numeral base 0 (digits_within steps base m) ≡ m) → (t : Bool) → ltb n base ≡ t
        → numeral base 0 (digits_within (suc steps) base n) ≡ n
    go deeper true e = rw (e, digits_within) (omega (arith, value_glyph n (omega (arith, ltb-true n base e))))
    go deeper false e =
        let large = ltb-false n base e in
        let less = quotient_less base n two large in
        let below = mod-lt n {m = base} (omega arith) in
        rw (e, digits_within)
        (numeral_last base 0 (digits_within steps base (n / base)) (glyph (n % base))
        ∙ ap (λ (k : ℕ). k * base + digit_value (glyph (n % base))) (deeper (n / base) (omega arith))
        ∙ ap (λ (k : ℕ). n / base * base + k) (value_glyph (n % base) (omega arith))
        ∙ div-add-mod' n base)

-- at any base from 2 to 16 the digits of n read back as n
pub digits_back : (base n : ℕ) → 2 ≤ base → base ≤ 16 → numeral base 0 (digits base n) ≡ n
unfolding digits
digits_back base n two small = within_back base (suc n) n two small (omega arith)

-- ---- no leading zero

-- only 0 has the digit 0
glyph_zero : (d : ℕ) → glyph d ≡ glyph 0 → d ≡ 0
unfolding glyph
glyph_zero d e = go (ltb d 10) refl e
  where
    go : (t : Bool) → ltb d 10 ≡ t → cond t (code "0" + d) (code "a" + (d - 10)) ≡ code "0" + 0 → d ≡ 0
    go true is e = omega (arith, e)
    go false is e = absurd (omega (arith, e))

-- there is a first digit, and it is not 0
abbrev NotZero : List ℕ → Type 0
NotZero [] = ⊥
NotZero (d ∷ ds) = d ≡ glyph 0 → ⊥

more_digits : (ds es : List ℕ) → NotZero ds → NotZero (ds ++ es)
more_digits [] es n = absurd n
more_digits (d ∷ ds) es n = n

within_first : (base steps n : ℕ) → 2 ≤ base → 0 < n → n < steps → NotZero (digits_within steps base n)
unfolding digits_within
within_first base zero n two some h = absurd (not-suc-le-zero h)
within_first base (suc steps) n two some h = go (λ (m : ℕ) (s : 0 < m) (l : m < steps). within_first base steps m two s l) (ltb n base) refl
  where
    go : ((m : ℕ) → 0 < m → m < steps → NotZero (digits_within steps base m)) → (t : Bool) → ltb n base ≡ t
        → NotZero (digits_within (suc steps) base n)
    go deeper true e = rw (e, digits_within) (λ zero. omega (arith, glyph_zero n zero))
    go deeper false e =
        let large = ltb-false n base e in
        let less = quotient_less base n two large in
        rw (e, digits_within)
        (more_digits (digits_within steps base (n / base)) (glyph (n % base) ∷ [])
        (deeper (n / base) ((le-div_iff_mul-le {k = base} {x = 1} {y = n} (omega arith)).1 (omega arith)) (omega arith)))

-- no digits but those of 0 start with 0
pub no_leading_zero : (base n : ℕ) → 2 ≤ base → 0 < n → get_or (digits base n) 0 0 ≡ glyph 0 → ⊥
unfolding digits
no_leading_zero base n two some = go (digits_within (suc n) base n) (within_first base (suc n) n two some (omega arith))
  where
    go : (ds : List ℕ) → NotZero ds → get_or ds 0 0 ≡ glyph 0 → ⊥
    go [] none e = none
    go (d ∷ ds) not e = not e

-- and those have one digit
pub zero_digits : (base : ℕ) → 2 ≤ base → digits base 0 ≡ glyph 0 ∷ []
zero_digits base two = digits_last base 0 (omega arith)
