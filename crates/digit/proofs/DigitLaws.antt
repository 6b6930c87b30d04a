-- Laws of digits, each over the base.
-- Assumes nothing.
use Prim.Native.Nat.{ℕ, zero, suc, ◌+◌, ◌-◌, ◌/◌, ◌%◌, ◌^◌, ◌≤◌, ◌<◌}
use Prim.Native.Char.{code}
use native.Mathlib.Nat.{div-lt_self, not-suc-le-zero, pow-le-pow_right}
use native.Mathlib.Numerals.{sub-one}
use native.Mathlib.Omega.{arith}
use mathlib.Core.Path.{◌≡◌, refl, ap, ◌∙◌}
use mathlib.Core.Bool.{Bool, true, false}
use mathlib.Core.List.{List, [], ◌∷◌, ◌++◌}
use lib.Dec.{ltb, lit<}
use lib.ListN.{length, length-append}
use borrow.Author.Tests.{lt-ltb, le-ltb, ltb-false}
use Rattle.digit.specs.Digits.{digits, digits_within, glyph, pointed}

-- a quotient is less than the number
pub quotient_less : (base n : ℕ) → 2 ≤ base → base ≤ n → n / base < n
quotient_less base n h l = div-lt_self (omega arith) h

-- as many steps as are enough give the same digits
within_enough : (j k base n : ℕ) → 2 ≤ base → n < j → n < k → digits_within j base n ≡ digits_within k base n
unfolding digits_within
within_enough zero k base n h p q = absurd (not-suc-le-zero p)
within_enough (suc j) zero base n h p q = absurd (not-suc-le-zero q)
within_enough (suc j) (suc k) base n h p q =
    go (λ (m : ℕ) (r : m < j) (s : m < k). within_enough j k base m h r s) (ltb n base) refl
  where
    go : ((m : ℕ) → m < j → m < k → digits_within j base m ≡ digits_within k base m)
        → (t : Bool) → ltb n base ≡ t → digits_within (suc j) base n ≡ digits_within (suc k) base n
    go same true e = rw (e, digits_within)
    go same false e =
        let l : base ≤ n = ltb-false n base e in
        let less : n / base < n = quotient_less base n h l in
        rw (e, digits_within, same (n / base) (omega arith) (omega arith))

-- a number below the base is one digit
pub digits_last : (base n : ℕ) → n < base → digits base n ≡ glyph n ∷ []
unfolding digits digits_within
digits_last base n h = rw (lt-ltb n base h, digits_within)

-- any other number has its quotient's digits and then its remainder's
pub digits_step : (base n : ℕ) → 2 ≤ base → base ≤ n → digits base n ≡ digits base (n / base) ++ (glyph (n % base) ∷ [])
unfolding digits digits_within
digits_step base n h l =
    let less : n / base < n = quotient_less base n h l in
    let same = within_enough n (suc (n / base)) base (n / base) h less (omega arith) in
    rw (le-ltb n base l, digits_within) (ap (λ (ds : List ℕ). ds ++ (glyph (n % base) ∷ [])) same)

-- the point comes after all digits where no places are left
pub pointed_none : (places n : ℕ) → places ≡ 0 → pointed places n ≡ digits 10 n ++ (code "." ∷ [])
unfolding pointed
pointed_none places n e = rw e

-- where places are left the last digit comes last
pub pointed_step : (places n : ℕ) → 1 ≤ places → pointed places n ≡ pointed (places - 1) (n / 10) ++ (glyph (n % 10) ∷ [])
unfolding pointed
pointed_step zero n h = absurd (not-suc-le-zero h)
pointed_step (suc places) n h = rw (sub-one (suc places))

-- so it has one digit more than its quotient
pub digits_longer : (base n : ℕ) → 2 ≤ base → base ≤ n → length (digits base n) ≡ length (digits base (n / base)) + 1
digits_longer base n h l = ap length (digits_step base n h l) ∙ length-append (digits base (n / base)) (glyph (n % base) ∷ [])

-- so it has one byte more than its quotient with a place less
pub pointed_longer : (places n : ℕ) → 1 ≤ places → length (pointed places n) ≡ length (pointed (places - 1) (n / 10)) + 1
pointed_longer places n h =
    ap length (pointed_step places n h) ∙ length-append (pointed (places - 1) (n / 10)) (glyph (n % 10) ∷ [])

-- eight octets fit 64 bits
pub power_fits : (i : ℕ) → i < 8 → 256 ^ suc i ≤ 2 ^ 64
power_fits i h = pow-le-pow_right {n = 256} (lit< tt) {i = suc i} {j = 8} h
