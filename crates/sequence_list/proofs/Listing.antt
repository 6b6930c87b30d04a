-- The walks that mark the objects that the SEQUENCE type of their row names: of one list, and of all lists.
-- Assumes nothing.
use mathlib.Core.Path.{◌≡◌, refl, sym, ap, ◌∙◌}
use mathlib.Core.Bool.{Bool, true, false, cond, ◌&&◌, ◌||◌}
use mathlib.Core.List.{List}
use Prim.Native.Nat.{ℕ, ◌+◌, ◌≤◌, ◌<◌}
use native.Mathlib.Decide.{ℕ_discrete}
use native.Mathlib.Omega.{arith}
use lib.Dec.{eqb}
use lib.ListN.{length, get_or, set, length-set}
use lib.Seq.{get_or-set_same, get_or-set_other}
use borrow.Author.Tests.{eq-eqb, ne_eqb, eqb-true}
use Rattle.index.specs.First.{any}
use Rattle.index.proofs.Search.{any_at, any_index}
use Rattle.module_table.specs.declared.Definition.{Definition}
use Rattle.object_tree.specs.Words.{numbered}
use Rattle.sequence_list.specs.Named.{columns_of, named_at, names, lists}
use Rattle.sequence_list.specs.Held.{places, row_type, ListedTable, ListedBy}
use Rattle.object_tree.proofs.Parents.{both}
use Rattle.sequence_list.proofs.Asking.{any_step, any_empty, any_longer, same_tests}
use Rattle.sequence_list.proofs.Marking.{type_few, named_few}

or_false : (b : Bool) → (b || false) ≡ b
or_false true = refl
or_false false = refl

or_swap : (a b : Bool) → (a || b) ≡ (b || a)
or_swap true true = refl
or_swap true false = refl
or_swap false true = refl
or_swap false false = refl

and_false : (b : Bool) → (b && false) ≡ false
and_false true = refl
and_false false = refl

or_true : (b : Bool) → (b || true) ≡ true
or_true true = refl
or_true false = refl

-- ---- one list

-- what is marked, and what the tokens from i on still mark, is what was marked and what the list marks
pub record Listing (ds : List Definition) (values : List ℕ) (type from to : ℕ) (old new : List ℕ) (i : ℕ) : Type 0 where
  pub long : length new ≡ places
  pub entry : (n : ℕ) → n < places
      → (eqb (get_or new n 0) 1 || (eqb (row_type ds n) type && any (names ds values n) i to)) ≡ ((eqb (row_type ds n) type && any (names ds values n) from to) || eqb (get_or old n 0) 1)

module _ (ds : List Definition) (values : List ℕ) (type from to : ℕ) (old : List ℕ) where
  pub listing_start : length old ≡ places → Listing ds values type from to old old from
  listing_start long = record { long = long; entry = λ n h. or_swap (eqb (get_or old n 0) 1) _ }

  module _ (new : List ℕ) (i : ℕ) (m : Listing ds values type from to old new i) where
    module _ (h : i < to) (number : ℕ) (is : number ≡ named_at ds values i) (own : Bool) (asked : own ≡ eqb (row_type ds number) type) (next : List ℕ) (stored : next ≡ cond own (set new number 1) new) where
      inside : number < length new
      inside = omega (arith, is, named_few ds values i, m.long)

      whole : ℕ → Bool
      whole n = (eqb (row_type ds n) type && any (names ds values n) from to) || eqb (get_or old n 0) 1

      -- the tokens from i on, by what token i names
      left : (n : ℕ) → n < places → {b : Bool} → names ds values n i ≡ b → (eqb (get_or new n 0) 1 || (eqb (row_type ds n) type && (b || any (names ds values n) (i + 1) to))) ≡ whole n
      unfolding whole
      left n l e =
          ap (λ (x : Bool). eqb (get_or new n 0) 1 || (eqb (row_type ds n) type && x)) (sym (any_step (names ds values n) i to h ∙ ap (λ (b : Bool). b || any (names ds values n) (i + 1) to) e))
          ∙ m.entry n l

      pub listing_next : Listing ds values type from to old next (i + 1)
      unfolding whole
      listing_next = record { long = long own stored; entry = λ n l. at n l (ℕ_discrete n number) own asked stored }
        where
          long : (b : Bool) → next ≡ cond b (set new number 1) new → length next ≡ places
          long true e = ap length e ∙ length-set new number 1 ∙ m.long
          long false e = ap length e ∙ m.long

          at : (n : ℕ) → n < places → Dec (n ≡ number) → (b : Bool) → b ≡ eqb (row_type ds number) type → next ≡ cond b (set new number 1) new
              → (eqb (get_or next n 0) 1 || (eqb (row_type ds n) type && any (names ds values n) (i + 1) to)) ≡ whole n
          at n l (yes same) true owned e =
              let here : names ds values n i ≡ true = eq-eqb (named_at ds values i) n (sym (same ∙ is)) in
              let marked : get_or next n 0 ≡ 1 = ap (λ (a : List ℕ). get_or a n 0) e ∙ ap (λ (x : ℕ). get_or (set new number 1) x 0) same ∙ get_or-set_same new number 1 0 inside in
              let row : eqb (row_type ds n) type ≡ true = ap (λ (x : ℕ). eqb (row_type ds x) type) same ∙ sym owned in
              let mine : eqb (get_or next n 0) 1 ≡ true = ap (λ (x : ℕ). eqb x 1) marked in
              ap (λ (b : Bool). b || (eqb (row_type ds n) type && any (names ds values n) (i + 1) to)) mine ∙ sym (or_true (eqb (get_or new n 0) 1))
              ∙ ap (λ (b : Bool). eqb (get_or new n 0) 1 || (b && (true || any (names ds values n) (i + 1) to))) (sym row) ∙ left n l here
          at n l (yes same) false owned e =
              let here : names ds values n i ≡ true = eq-eqb (named_at ds values i) n (sym (same ∙ is)) in
              let row : eqb (row_type ds n) type ≡ false = ap (λ (x : ℕ). eqb (row_type ds x) type) same ∙ sym owned in
              let kept : get_or next n 0 ≡ get_or new n 0 = ap (λ (a : List ℕ). get_or a n 0) e in
              ap (λ (x : ℕ). eqb x 1 || (eqb (row_type ds n) type && any (names ds values n) (i + 1) to)) kept
              ∙ ap (λ (b : Bool). eqb (get_or new n 0) 1 || (b && any (names ds values n) (i + 1) to)) row
              ∙ ap (λ (b : Bool). eqb (get_or new n 0) 1 || (b && (true || any (names ds values n) (i + 1) to))) (sym row) ∙ left n l here
          at n l (no other) b owned e =
              let here : names ds values n i ≡ false = ne_eqb (named_at ds values i) n (λ q. other (sym (is ∙ q))) in
              let kept : get_or next n 0 ≡ get_or new n 0 = kept_by b e in
              ap (λ (x : ℕ). eqb x 1 || (eqb (row_type ds n) type && any (names ds values n) (i + 1) to)) kept ∙ left n l here
            where
              kept_by : (b : Bool) → next ≡ cond b (set new number 1) new → get_or next n 0 ≡ get_or new n 0
              kept_by true e = ap (λ (a : List ℕ). get_or a n 0) e ∙ get_or-set_other new number n 1 0 other
              kept_by false e = ap (λ (a : List ℕ). get_or a n 0) e

    pub listing_end : to ≤ i → from ≡ (columns_of ds type).from → to ≡ (columns_of ds type).to → ListedBy ds values type old new
    unfolding lists
    listing_end h a b = record {
      long = m.long;
      entry = λ n l. rw (← a, ← b)
          (sym (or_false (eqb (get_or new n 0) 1)) ∙ ap (λ (x : Bool). eqb (get_or new n 0) 1 || x) (sym (and_false (eqb (row_type ds n) type)))
          ∙ ap (λ (x : Bool). eqb (get_or new n 0) 1 || (eqb (row_type ds n) type && x)) (sym (any_empty (names ds values n) i to h)) ∙ m.entry n l);
    }

-- ---- all lists

-- a search for a test that holds at one index alone
any_picked : (x : ℕ) (f : ℕ → Bool) (b : ℕ) → x < b → any (λ (t : ℕ). eqb x t && f t) 0 b ≡ f x
any_picked x f b h = same_tests _ _ there (λ e. any_at (λ (t : ℕ). eqb x t && f t) 0 b x (omega arith) h (rw (eq-eqb x x refl) e))
  where
    there : any (λ (t : ℕ). eqb x t && f t) 0 b ≡ true → f x ≡ true
    there e =
        let found = any_index (λ (t : ℕ). eqb x t && f t) 0 b (omega arith) e in
        let parts = both (eqb x found.0) _ found.3 in
        ap f (eqb-true x found.0 parts.0) ∙ parts.1

-- the types below a number have marked what they name
pub record ListedBelow (ds : List Definition) (values listed : List ℕ) (type : ℕ) : Type 0 where
  pub long : length listed ≡ places
  pub entry : (n : ℕ) → n < places → eqb (get_or listed n 0) 1 ≡ any (λ (t : ℕ). eqb (row_type ds n) t && lists ds values t n) 0 type

module _ (ds : List Definition) (values : List ℕ) where
  pub below_start : (listed : List ℕ) → length listed ≡ places → ((n : ℕ) → n < places → get_or listed n 0 ≡ 0) → ListedBelow ds values listed 0
  below_start listed long clear = record {
    long = long;
    entry = λ n h. ap (λ (x : ℕ). eqb x 1) (clear n h) ∙ sym (any_empty _ 0 0 (omega arith));
  }

  pub below_next : (old new : List ℕ) (type : ℕ) → ListedBelow ds values old type → ListedBy ds values type old new → ListedBelow ds values new (type + 1)
  below_next old new type m s = record { long = s.long; entry = λ n h. s.entry n h ∙ ap (λ (x : Bool). test n type || x) (m.entry n h) ∙ more n (test n type) refl }
    where
      test : ℕ → ℕ → Bool
      test n t = eqb (row_type ds n) t && lists ds values t n

      more : (n : ℕ) (b : Bool) → test n type ≡ b → (b || any (test n) 0 type) ≡ any (test n) 0 (type + 1)
      more n true e = sym (any_at (test n) 0 (type + 1) type (omega arith) (omega arith) e)
      more n false e = any_longer (test n) 0 type (omega arith) e

  pub below_end : (listed : List ℕ) (type : ℕ) → ListedBelow ds values listed type → places ≤ type → ListedTable ds values listed
  below_end listed type m h = record {
    long = m.long;
    entry = λ n l. m.entry n l ∙ any_picked (row_type ds n) (λ (t : ℕ). lists ds values t n) type (omega (arith, type_few (numbered ds (numbered ds n).parent)));
  }
