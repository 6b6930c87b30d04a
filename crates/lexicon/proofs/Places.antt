-- What stands at a place of the text, said of what is left of the text there.
-- Assumes nothing.
use mathlib.Core.Path.{◌≡◌, sym, ap, ◌∙◌}
use mathlib.Core.Bool.{true, false}
use mathlib.Core.List.{List}
use Prim.Native.Nat.{ℕ, ◌+◌, ◌≤◌, ◌<◌}
use native.Mathlib.Decide.{dec_lt}
use native.Mathlib.Omega.{arith}
use lib.Dec.{eqb}
use lib.ListN.{length, get_or, drop, get_or-eq_default}
use lib.Seq.{get_or-drop, drop-drop}
use borrow.Author.Tests.{eq-eqb, ne_eqb}
use Rattle.lexicon.specs.Byte.{other, class_of, class_in, rows}

-- what is left n bytes on is what is left at the place k
pub rest_at : (t : List ℕ) (at n k : ℕ) → at + n ≡ k → drop n (drop at t) ≡ drop k t
rest_at t at n k e = drop-drop n at t ∙ ap (λ (j : ℕ). drop j t) e

-- the byte n on is the byte at the place k
pub byte_there : (t : List ℕ) (at n k : ℕ) → at + n ≡ k → get_or (drop at t) n 0 ≡ get_or t k 0
byte_there t at n k e = get_or-drop at t n 0 ∙ ap (λ (j : ℕ). get_or t j 0) e

pub byte_is : (t : List ℕ) (at n k : ℕ) {r v : ℕ} → at + n ≡ k → r ≡ get_or t k 0 → r ≡ v → eqb (get_or (drop at t) n 0) v ≡ true
byte_is t at n k e q h = eq-eqb _ _ (byte_there t at n k e ∙ sym q ∙ h)

pub byte_not : (t : List ℕ) (at n k : ℕ) {r v : ℕ} → at + n ≡ k → r ≡ get_or t k 0 → (r ≡ v → ⊥)
    → eqb (get_or (drop at t) n 0) v ≡ false
byte_not t at n k e q h = ne_eqb _ _ (λ p. h (q ∙ sym (byte_there t at n k e) ∙ p))

pub class_there : (t : List ℕ) (at n k : ℕ) {r : ℕ} → at + n ≡ k → r ≡ class_of (get_or t k 0) → class_of (get_or (drop at t) n 0) ≡ r
class_there t at n k e q = ap class_of (byte_there t at n k e) ∙ sym q

pub class_is : (t : List ℕ) (at n k : ℕ) {r v : ℕ} → at + n ≡ k → r ≡ class_of (get_or t k 0) → r ≡ v
    → eqb (class_of (get_or (drop at t) n 0)) v ≡ true
class_is t at n k e q h = eq-eqb _ _ (class_there t at n k e q ∙ h)

pub class_not : (t : List ℕ) (at n k : ℕ) {r v : ℕ} → at + n ≡ k → r ≡ class_of (get_or t k 0) → (r ≡ v → ⊥)
    → eqb (class_of (get_or (drop at t) n 0)) v ≡ false
class_not t at n k e q h = ne_eqb _ _ (λ p. h (sym (class_there t at n k e q) ∙ p))

-- the first byte of what is left is the byte at the place
pub first_byte : (t : List ℕ) (k : ℕ) → get_or (drop k t) 0 0 ≡ get_or t k 0
first_byte t k = byte_there t k 0 k (omega arith)

pub first_is : (t : List ℕ) (k : ℕ) {r v : ℕ} → r ≡ get_or t k 0 → r ≡ v → eqb (get_or (drop k t) 0 0) v ≡ true
first_is t k q h = byte_is t k 0 k (omega arith) q h

pub first_not : (t : List ℕ) (k : ℕ) {r v : ℕ} → r ≡ get_or t k 0 → (r ≡ v → ⊥) → eqb (get_or (drop k t) 0 0) v ≡ false
first_not t k q h = byte_not t k 0 k (omega arith) q h

pub first_class : (t : List ℕ) (k : ℕ) {r : ℕ} → r ≡ class_of (get_or t k 0) → class_of (get_or (drop k t) 0 0) ≡ r
first_class t k q = class_there t k 0 k (omega arith) q

pub first_class_is : (t : List ℕ) (k : ℕ) {r v : ℕ} → r ≡ class_of (get_or t k 0) → r ≡ v
    → eqb (class_of (get_or (drop k t) 0 0)) v ≡ true
first_class_is t k q h = class_is t k 0 k (omega arith) q h

pub first_class_not : (t : List ℕ) (k : ℕ) {r v : ℕ} → r ≡ class_of (get_or t k 0) → (r ≡ v → ⊥)
    → eqb (class_of (get_or (drop k t) 0 0)) v ≡ false
first_class_not t k q h = class_not t k 0 k (omega arith) q h

-- past the text's end there is byte 0, of the class that no token and no gap starts with
no_class : (t : List ℕ) (k : ℕ) → length t ≤ k → class_of (get_or t k 0) ≡ other
unfolding class_of class_in rows
no_class t k h = ap class_of (get_or-eq_default t 0 h)

-- a byte that is not 0 is in the text
pub byte_inside : (t : List ℕ) (k v : ℕ) → get_or t k 0 ≡ v → 0 < v → k < length t
byte_inside t k v e p = go (dec_lt k (length t))
  where
    go : Dec (k < length t) → k < length t
    go (yes h) = h
    go (no h) =
        let out : length t ≤ k = omega arith in
        let z : v ≡ 0 = sym e ∙ get_or-eq_default t 0 out in
        omega arith

-- a byte of any other class is in the text
pub inside : (t : List ℕ) (k v : ℕ) → class_of (get_or t k 0) ≡ v → v < other → k < length t
inside t k v e p = go (dec_lt k (length t))
  where
    go : Dec (k < length t) → k < length t
    go (yes h) = h
    go (no h) =
        let out : length t ≤ k = omega arith in
        let z : v ≡ other = sym e ∙ no_class t k out in
        omega arith
