-- How many numbers an OID's own parts have: as many as tokens that are numbers, and no more than tokens.
-- Assumes nothing.
use mathlib.Core.Path.{◌≡◌, refl, ap, ◌∙◌}
use mathlib.Core.Bool.{Bool, true, false, cond}
use mathlib.Core.List.{List, ◌∷◌}
use Prim.Native.Nat.{ℕ, zero, suc, ◌+◌, ◌-◌, ◌≤◌, ◌<◌}
use native.Mathlib.Decide.{dec_lt}
use native.Mathlib.Omega.{arith}
use borrow.Author.Tests.{lt-ltb, le-ltb}
use lib.ListN.{length, get_or, length-map}
use Rattle.index.specs.First.{hits_of, hits}
use Rattle.definition.specs.Members.{oid_numbers}
use Rattle.definition.specs.declared.Span.{Span}
use Rattle.oid_number.specs.Number.{is_number, number_tokens, parts_in}

-- a test that holds at no index from n on has at most n hits
module _ (test : ℕ → Bool) (n : ℕ) (none : (i : ℕ) → n ≤ i → test i ≡ false) where
  of_below : (c a : ℕ) → length (hits_of test a c) ≤ n - a
  unfolding hits_of
  of_below zero a = omega arith
  of_below (suc c) a = go (dec_lt a n) (of_below c (suc a))
    where
      go : Dec (a < n) → length (hits_of test (suc a) c) ≤ n - suc a → length (cond (test a) (a ∷ hits_of test (suc a) c) (hits_of test (suc a) c)) ≤ n - a
      go (yes h) ih = each (test a)
        where
          each : (b : Bool) → length (cond b (a ∷ hits_of test (suc a) c) (hits_of test (suc a) c)) ≤ n - a
          each true = omega arith
          each false = omega arith
      go (no h) ih = rw (none a (omega arith)) (omega arith)

  hits_below : (a b : ℕ) → length (hits test a b) ≤ n
  unfolding hits
  hits_below a b = omega (arith, of_below (b - a) a)

-- no token past the last is a number
past_last : (classes : List ℕ) (i : ℕ) → length classes ≤ i → is_number classes i ≡ false
past_last classes i h = rw (le-ltb i (length classes) h)

pub parts_length : (classes values : List ℕ) (span : Span) → length (parts_in classes values span) ≡ length (number_tokens classes span)
unfolding parts_in
parts_length classes values span = length-map (number_tokens classes span) (λ (i : ℕ). get_or values i 0)

pub parts_few : (classes values : List ℕ) (span : Span) → length (parts_in classes values span) ≤ length classes
unfolding number_tokens
parts_few classes values span =
    omega (
      arith,
      parts_length classes values span,
      hits_below (is_number classes) (length classes) (past_last classes) span.from span.to,
    )

-- ---- in a span that ends among the tokens they are those of the crate `definition`

hits_same : (p q : ℕ → Bool) (n a : ℕ) → ((i : ℕ) → a ≤ i → i < a + n → p i ≡ q i) → hits_of p a n ≡ hits_of q a n
unfolding hits_of
hits_same p q zero a same = refl
hits_same p q (suc n) a same =
    ap (λ (b : Bool). cond b (a ∷ hits_of p (suc a) n) (hits_of p (suc a) n)) (same a (omega arith) (omega arith))
    ∙ ap (λ (l : List ℕ). cond (q a) (a ∷ l) l) (hits_same p q n (suc a) (λ i l h. same i (omega arith) (omega arith)))

pub tokens_inside : (classes : List ℕ) (span : Span) → span.to ≤ length classes → number_tokens classes span ≡ oid_numbers classes span
unfolding number_tokens oid_numbers hits
tokens_inside classes span inside =
    hits_same _ _ (span.to - span.from) span.from (λ i l h. rw (lt-ltb i (length classes) (omega arith)))
