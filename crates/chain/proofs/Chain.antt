-- The laws of chains: how they start and grow, and the walk along one of them, which passes no entry that is searched for.
-- Assumes nothing.
use mathlib.Core.Path.{◌≡◌, refl, sym, ap, ◌∙◌}
use mathlib.Core.Bool.{Bool, true, false}
use mathlib.Core.List.{List}
use Prim.Native.Nat.{ℕ, zero, suc, ◌+◌, ◌≤◌, ◌<◌}
use native.Mathlib.Decide.{dec_lt, ℕ_discrete}
use native.Mathlib.Numerals.{add-one}
use native.Mathlib.Omega.{arith}
use lib.Dec.{eqb}
use lib.ListN.{get_or, set, replicate, length-set, length-replicate, get_or-replicate}
use lib.Seq.{get_or-set_same, get_or-set_other}
use borrow.Author.Tests.{eq-eqb, ne_eqb, eqb-true}
use Rattle.index.specs.First.{any}
use Rattle.index.proofs.Search.{true_false, answers, any_at, any_index, any_none, none_any}
use Rattle.index.proofs.Collected.{filled_more}
use Rattle.chain.specs.Chain.{last_before, Chained, key_count, most_entries}

-- ---- the last index where a test holds

module _ (test : ℕ → Bool) where
  -- one index more, by its test
  last_hit : (k : ℕ) → test k ≡ true → last_before test (suc k) ≡ suc k
  unfolding last_before
  last_hit k e = rw e

  last_miss : (k : ℕ) → test k ≡ false → last_before test (suc k) ≡ last_before test k
  unfolding last_before
  last_miss k e = rw e

  -- it is none of those from k on
  pub last_inside : (k : ℕ) → last_before test k ≤ k
  unfolding last_before
  last_inside zero = omega arith
  last_inside (suc k) =
      answers (test k) (λ e. omega (arith, last_hit k e)) (λ e. omega (arith, last_miss k e, last_inside k))

  -- the test holds at it
  pub last_holds : (k j : ℕ) → last_before test k ≡ suc j → test j ≡ true
  unfolding last_before
  last_holds zero j is = absurd (omega arith)
  last_holds (suc k) j is = answers (test k) hit (λ e. last_holds k j (sym (last_miss k e) ∙ is))
    where
      hit : test k ≡ true → test j ≡ true
      hit e = let same : j ≡ k = omega (arith, last_hit k e) in rw same e

  -- and at none after it
  pub last_passed : (k i : ℕ) → last_before test k ≤ i → i < k → test i ≡ false
  last_passed zero i l h = absurd (omega arith)
  last_passed (suc k) i l h = answers (test k) (λ e. absurd (omega (arith, last_hit k e))) (λ e. miss e (last_passed k i))
    where
      miss : test k ≡ false → (last_before test k ≤ i → i < k → test i ≡ false) → test i ≡ false
      miss e before = go (ℕ_discrete i k)
        where
          go : Dec (i ≡ k) → test i ≡ false
          go (yes same) = rw same e
          go (no other) = before (omega (arith, last_miss k e)) (omega arith)

-- a search is the same up to an index from which on the test holds nowhere
any_shorter : (t : ℕ → Bool) (a b : ℕ) → a ≤ b → ((i : ℕ) → a ≤ i → i < b → t i ≡ false) → any t 0 a ≡ any t 0 b
any_shorter t a b l none = answers (any t 0 b) some (λ e. none_any t 0 a (omega arith) (λ i m h. any_none t 0 b i e m (omega arith)) ∙ sym e)
  where
    some : any t 0 b ≡ true → any t 0 a ≡ any t 0 b
    some e = go (any_index t 0 b (omega arith) e)
      where
        go : (i : ℕ) × (0 ≤ i) × (i < b) × (t i ≡ true) → any t 0 a ≡ any t 0 b
        go (i, m, h, holds) = at (dec_lt i a)
          where
            at : Dec (i < a) → any t 0 a ≡ any t 0 b
            at (yes p) = any_at t 0 a i m p holds ∙ sym e
            at (no p) = absurd (true_false holds (none i (omega arith) h))

-- the entries of a key include all that a search for the key finds: up to the last of them it finds the same
pub none_passed : (t p : ℕ → Bool) (k : ℕ) → ((i : ℕ) → i < k → t i ≡ true → p i ≡ true) → any t 0 (last_before p k) ≡ any t 0 k
none_passed t p k found =
    any_shorter t (last_before p k) k (last_inside p k)
    (λ i l h. answers (t i) (λ e. absurd (true_false (found i h e) (last_passed p k i l h))) (λ e. e))

-- ---- how chains start and grow

-- no entries are chained by zeros
pub chained_none : (key : ℕ → ℕ) → Chained key 0 (replicate key_count 0) (replicate most_entries 0)
unfolding last_before
chained_none key = record {
  heads_long = length-replicate {A = ℕ} key_count 0;
  links_long = length-replicate {A = ℕ} most_entries 0;
  head = λ h l. get_or-replicate key_count h 0 0 l;
  link = λ j h. absurd (omega arith);
}

-- one entry more: its link is what was its key's head, and it is the head now
pub chained_more : (key : ℕ → ℕ) (k : ℕ) (heads links : List ℕ) (own : ℕ) → key k ≡ own → own < key_count → k < most_entries → Chained key k heads links
    → Chained key (k + 1) (set heads own (k + 1)) (set links k (get_or heads own 0))
chained_more key k heads links own is few room c = record {
  heads_long = length-set heads own (k + 1) ∙ c.heads_long;
  links_long = length-set links k (get_or heads own 0) ∙ c.links_long;
  head = head;
  link =
      filled_more (λ (j v : ℕ). v ≡ last_before (λ (i : ℕ). eqb (key i) (key j)) j) links k (get_or heads own 0) c.link
      (rw is (c.head own few)) (omega (arith, c.links_long));
}
  where
    head : (h : ℕ) → h < key_count → get_or (set heads own (k + 1)) h 0 ≡ last_before (λ (j : ℕ). eqb (key j) h) (k + 1)
    head h l = rw (add-one k) (go (ℕ_discrete h own))
      where
        go : Dec (h ≡ own) → get_or (set heads own (suc k)) h 0 ≡ last_before (λ (j : ℕ). eqb (key j) h) (suc k)
        go (yes same) =
            ap (λ (x : ℕ). get_or (set heads own (suc k)) x 0) same ∙ get_or-set_same heads own (suc k) 0 (omega (arith, c.heads_long))
            ∙ sym (last_hit (λ (j : ℕ). eqb (key j) h) k (eq-eqb (key k) h (is ∙ sym same)))
        go (no other) =
            get_or-set_other heads own h (suc k) 0 other ∙ c.head h l
            ∙ sym (last_miss (λ (j : ℕ). eqb (key j) h) k (ne_eqb (key k) h (λ e. other (sym e ∙ is))))

-- ---- the walk along the chain of a key

-- it searches the first k entries for one that passes the test, and is at an entry, counted from 1: none that passes is left behind
pub record Walking (key : ℕ → ℕ) (t : ℕ → Bool) (h k at : ℕ) : Type 0 where
  pub inside : at ≤ k
  pub left : any t 0 at ≡ any t 0 k
  pub own : (j : ℕ) → at ≡ suc j → key j ≡ h

-- all entries that pass are of the key
module _ (key : ℕ → ℕ) (t : ℕ → Bool) (h k : ℕ) (alike : (i : ℕ) → i < k → t i ≡ true → key i ≡ h) where
  -- the last entry of the key before an index is the next to look at
  walk_to : (b : ℕ) → b ≤ k → any t 0 b ≡ any t 0 k → (at : ℕ) → at ≡ last_before (λ (j : ℕ). eqb (key j) h) b → Walking key t h k at
  walk_to b l left at is = record {
    inside = omega (arith, last_inside (λ (j : ℕ). eqb (key j) h) b);
    left =
        ap (any t 0) is ∙ none_passed t (λ (j : ℕ). eqb (key j) h) b (λ i m e. eq-eqb (key i) h (alike i (omega arith) e)) ∙ left;
    own = λ j e. eqb-true (key j) h (last_holds (λ (j : ℕ). eqb (key j) h) b j (sym is ∙ e));
  }

  module _ (heads links : List ℕ) (c : Chained key k heads links) where
    -- it starts at the key's head
    pub walking_start : h < key_count → (at : ℕ) → at ≡ get_or heads h 0 → Walking key t h k at
    walking_start few at is = walk_to k (omega arith) refl at (is ∙ c.head h few)

    -- an entry that doesn't pass is left by its link, to an earlier one
    module _ (at j : ℕ) (w : Walking key t h k at) (here : at ≡ suc j) where
      own_link : get_or links j 0 ≡ last_before (λ (i : ℕ). eqb (key i) h) j
      own_link = c.link j (omega (arith, w.inside)) ∙ ap (λ (x : ℕ). last_before (λ (i : ℕ). eqb (key i) x) j) (w.own j here)

      pub walking_falls : get_or links j 0 < at
      walking_falls = omega (arith, own_link, last_inside (λ (i : ℕ). eqb (key i) h) j)

      pub walking_next : t j ≡ false → (next : ℕ) → next ≡ get_or links j 0 → Walking key t h k next
      walking_next e next is =
          walk_to j (omega (arith, w.inside)) (any_shorter t j (suc j) (omega arith) (λ i l m. let same : i ≡ j = omega arith in rw same e) ∙ rw here at w.left) next
          (is ∙ own_link)

-- one that passes is found
pub walking_hit : {key : ℕ → ℕ} {t : ℕ → Bool} {h k at : ℕ} → Walking key t h k at → (j : ℕ) → at ≡ suc j → t j ≡ true → true ≡ any t 0 k
walking_hit {t = t} {k = k} w j here e = sym (any_at t 0 k j (omega arith) (omega (arith, w.inside)) e)

-- and at the end there is none
pub walking_end : {key : ℕ → ℕ} {t : ℕ → Bool} {h k at : ℕ} → Walking key t h k at → at ≤ 0 → false ≡ any t 0 k
walking_end {t = t} {at = at} w end =
    let none : at ≡ 0 = omega arith in
    sym (none_any t 0 0 (omega arith) (λ i l h. absurd (omega arith))) ∙ rw none at w.left
