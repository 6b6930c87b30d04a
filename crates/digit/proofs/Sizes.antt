-- How many digits a number has: one law over the base, and what follows of numbers of so many octets.
-- Assumes nothing.
use Prim.Native.Nat.{ℕ, zero, suc, ◌+◌, ◌*◌, ◌/◌, ◌^◌, ◌≤◌, ◌<◌, ◌%◌}
use Prim.Native.Char.{code}
use native.Mathlib.Nat.{mul-le-mul_right, mul-le-mul_left, mul_assoc, mul_comm, pow-suc, pow-zero, div-lt_iff_lt-mul, one-mul}
use native.Mathlib.Omega.{arith}
use mathlib.Core.Path.{◌≡◌, refl, sym, ap, ◌∙◌, subst}
use mathlib.Core.Bool.{Bool, true, false}
use mathlib.Core.List.{List, [], ◌∷◌}
use lib.Dec.{ltb, lit<, lit≤}
use lib.ListN.{length, get_or, take, drop, length-append}
use lib.Seq.{get_or-drop}
use lib.Pow.{pow-add}
use borrow.Author.Tests.{ltb-true, ltb-false}
use Rattle.digit.specs.Digits.{digits, big_endian, glyph, pointed}
use Rattle.digit.proofs.DigitLaws.{digits_last, digits_longer}

-- each element is an octet
abbrev pub Octets : List ℕ → Type 0
Octets s = (k : ℕ) → get_or s k 0 < 256

pub octets_drop : (n : ℕ) (s : List ℕ) → Octets s → Octets (drop n s)
octets_drop n s h k = rw (get_or-drop n s k 0) (h (n + k))

pub octets_take : (n : ℕ) (s : List ℕ) → Octets s → Octets (take n s)
octets_take zero s h k = lit< tt
octets_take (suc n) [] h k = lit< tt
octets_take (suc n) (x ∷ xs) h zero = h 0
octets_take (suc n) (x ∷ xs) h (suc k) = octets_take n xs (λ j. h (suc j)) k

-- a number of k octets is below 256 ^ k
pub big_endian_below : (n : ℕ) (s : List ℕ) → Octets s → big_endian n s < suc n * 256 ^ length s
unfolding big_endian
big_endian_below n [] h = omega (arith, pow-zero 256)
big_endian_below n (b ∷ bs) h =
    let rest = big_endian_below (n * 256 + b) bs (λ k. h (suc k)) in
    let first : b < 256 = h 0 in
    let power : ℕ = 256 ^ length bs in
    let more : suc (n * 256 + b) * power ≤ (suc n * 256) * power = mul-le-mul_right power (omega arith) in
    let same : (suc n * 256) * power ≡ suc n * 256 ^ suc (length bs) =
    mul_assoc (suc n) 256 power ∙ ap (λ (k : ℕ). suc n * k) (mul_comm 256 power ∙ sym (pow-suc 256 (length bs))) in
    omega arith

-- one law for every base: a number below c ^ m has m digits at most, at any base from c on
pub digits_short : (c base m n : ℕ) → 2 ≤ c → c ≤ base → n < c ^ suc m → length (digits base n) ≤ suc m
digits_short c base zero n two large h =
    let one : c ^ 1 ≡ c = pow-suc c 0 ∙ ap (λ (k : ℕ). k * c) (pow-zero c) ∙ one-mul c in
    omega (arith, ap length (digits_last base n (omega arith)))
digits_short c base (suc m) n two large h =
    go (λ (q : ℕ) (l : q < c ^ suc m). digits_short c base m q two large l) (ltb n base) refl
  where
    go : ((q : ℕ) → q < c ^ suc m → length (digits base q) ≤ suc m)
        → (t : Bool) → ltb n base ≡ t → length (digits base n) ≤ suc (suc m)
    go deeper true e = omega (arith, ap length (digits_last base n (ltb-true n base e)))
    go deeper false e =
        let more : c ^ suc m * c ≤ c ^ suc m * base = mul-le-mul_left (c ^ suc m) large in
        let below : n < c ^ suc m * base = omega (arith, pow-suc c (suc m)) in
        let quotient : n / base < c ^ suc m = (div-lt_iff_lt-mul {k = base} {x = n} {y = c ^ suc m} (omega arith)).1 below in
        omega (arith, deeper (n / base) quotient, digits_longer base n (omega arith) (ltb-false n base e))

-- three digits of base 8 hold an octet
octal : (k : ℕ) → 256 ^ k ≤ 8 ^ (3 * k)
octal zero = omega (arith, pow-zero 256, pow-zero 8)
octal (suc k) =
    let split : 8 ^ (3 * suc k) ≡ 8 ^ (3 * k) * 512 = ap (λ (e : ℕ). 8 ^ e) (omega arith) ∙ pow-add 8 (3 * k) 3 in
    omega (arith, octal k, pow-suc 256 k)

-- a number of so many octets has three digits for each at most, at a base from 8 on
pub number_short : (base : ℕ) (s : List ℕ) → 8 ≤ base → 0 < length s → Octets s
    → length (digits base (big_endian 0 s)) ≤ 3 * length s
number_short base [] large some h = absurd (omega arith)
number_short base (b ∷ bs) large some h =
    let k : ℕ = length (b ∷ bs) in
    let value : big_endian 0 (b ∷ bs) < 1 * 256 ^ k = big_endian_below 0 (b ∷ bs) h in
    let exponent : 3 * k ≡ suc (3 * length bs + 2) = omega arith in
    let n : ℕ = big_endian 0 (b ∷ bs) in
    let below : n < 8 ^ suc (3 * length bs + 2) = subst (λ (e : ℕ). n < 8 ^ e) exponent (omega (arith, octal k)) in
    omega (arith, digits_short 8 base (3 * length bs + 2) n (lit≤ tt) large below)

-- a number below 2 ^ 32 has 32 digits at most, and the point
pub pointed_size : (places n : ℕ) → n < 2 ^ 32 → length (pointed places n) ≤ 33 + places
unfolding pointed
pointed_size zero n h = omega (arith, digits_short 2 10 31 n (lit≤ tt) (lit≤ tt) h, length-append (digits 10 n) (code "." ∷ []))
pointed_size (suc places) n h =
    let more = length-append (pointed places (n / 10)) (glyph (n % 10) ∷ []) in
    omega (arith, pointed_size places (n / 10) (omega arith))
