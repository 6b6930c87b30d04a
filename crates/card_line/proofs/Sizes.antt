-- How many digits the numbers of a line have, and how an OID is put together.
-- Assumes nothing.
use mathlib.Core.Path.{◌≡◌, refl, sym, ap, ◌∙◌}
use mathlib.Core.List.{List, [], ◌∷◌, ◌++◌, append_assoc, append-nil}
use Prim.Native.Nat.{ℕ, ◌+◌, ◌^◌, ◌≤◌, ◌<◌, min}
use Prim.Native.Char.{code}
use native.Mathlib.Nat.{lt_of_lt_of_le}
use native.Mathlib.Numerals.{add-one}
use native.Mathlib.Omega.{arith}
use lib.Dec.{lit≤}
use lib.ListN.{length, get_or, take, length-take}
use lib.Seq.{take-suc}
use Rattle.buffer.specs.Buffer.{Wrote}
use Rattle.buffer.proofs.Writing.{wrote_more}
use Rattle.digit.specs.Digits.{digits}
use Rattle.digit.proofs.Sizes.{digits_short}
use Rattle.card_line.specs.Line.{pointed, dotted}

-- a number of 64 bits has 20 digits at most, and one of 32 bits 10
pub digits_few : (n : ℕ) → n < 2 ^ 64 → length (digits 10 n) ≤ 20
digits_few n h = digits_short 10 10 19 n (lit≤ tt) (lit≤ tt) (lt_of_lt_of_le h (lit≤ tt))

pub digits_ten : (n : ℕ) → n < 2 ^ 32 → length (digits 10 n) ≤ 10
digits_ten n h = digits_short 10 10 9 n (lit≤ tt) (lit≤ tt) (lt_of_lt_of_le h (lit≤ tt))

-- a part is no longer than it may be
pub part_size : (n most : ℕ) (l : List ℕ) → length (take (min n most) l) ≤ most
part_size n most l = omega (arith, length-take (min n most) l)

-- one number more comes behind a point
after_point : (ns : List ℕ) (n : ℕ) → pointed (ns ++ n ∷ []) ≡ pointed ns ++ (code "." ∷ digits 10 n)
unfolding pointed
after_point [] n = ap (λ (r : List ℕ). code "." ∷ r) (append-nil (digits 10 n))
after_point (m ∷ ns) n =
    ap (λ (r : List ℕ). code "." ∷ digits 10 m ++ r) (after_point ns n)
    ∙ ap (λ (r : List ℕ). code "." ∷ r) (sym (append_assoc (digits 10 m) (pointed ns) (code "." ∷ digits 10 n)))

pub pointed_next : (ns : List ℕ) (i : ℕ) → i < length ns
    → pointed (take i ns) ++ (code "." ∷ digits 10 (get_or ns i 0)) ≡ pointed (take (i + 1) ns)
pointed_next ns i h = rw (add-one i) (sym (after_point (take i ns) (get_or ns i 0)) ∙ ap pointed (sym (take-suc ns i 0 h)))

pub pointed_none : [] ≡ pointed []
unfolding pointed
pointed_none = refl

-- an OID is its first number, and the others behind points
pub dotted_split : (ns : List ℕ) (n : ℕ) (others : List ℕ) → ns ≡ n ∷ others → digits 10 n ++ pointed others ≡ dotted ns
unfolding dotted
dotted_split ns n others e = sym (ap dotted e)

-- of no numbers it is a hyphen
pub dotted_none : (ns : List ℕ) → length ns ≡ 0 → code "-" ∷ [] ≡ dotted ns
unfolding dotted
dotted_none [] e = refl
dotted_none (n ∷ ns) e = absurd (omega (arith, e))

-- two calls in a row that write, where the first ends within the buffer
pub wrote_then : {a b o o₁ o₂ : List ℕ} {at n n₁ : ℕ} → Wrote a at n o o₁ → n ≤ length o → Wrote b n n₁ o₁ o₂ → Wrote (a ++ b) at n₁ o o₂
wrote_then p h q = wrote_more (omega (arith, p.next_is, h)) p q
