-- What the verdict on a list says of the objects that it names.
-- Assumes nothing.
use mathlib.Core.Path.{◌≡◌, refl, sym, ap, ◌∙◌}
use mathlib.Core.Bool.{Bool, true, false, cond, not, ◌&&◌, ◌||◌}
use mathlib.Core.List.{List}
use Prim.Native.Nat.{ℕ, ◌+◌, ◌≤◌, ◌<◌}
use native.Mathlib.Decide.{dec_lt, ℕ_discrete}
use native.Mathlib.Omega.{arith}
use lib.Dec.{eqb}
use lib.ListN.{length, get_or, set, replicate, length-set, length-replicate, get_or-replicate, get_or-eq_default}
use borrow.Author.Tests.{eq-eqb, ne_eqb, lt-ltb, le-ltb}
use Rattle.index.specs.First.{any}
use Rattle.index.proofs.Search.{true_false, any_at, any_none, any_first, any_some, first_holds, first_from}
use Rattle.index.proofs.Collected.{filled_more}
use Rattle.module_table.specs.declared.Definition.{Definition}
use Rattle.sequence_list.specs.Named.{columns_of, names_object, repeats, is_stranger, names_stranger, first_repeated, first_stranger}
use Rattle.sequence_list.specs.Held.{places, first_named, names_some, parent_named, verdict_of, VerdictTable, Stamped, Answered}
use Rattle.object_tree.proofs.Parents.{both}
use Rattle.sequence_list.proofs.Asking.{none_asked_of}

module _ (ds : List Definition) (values : List ℕ) (type : ℕ) where
  -- where no object is named, none is a stranger
  nameless : names_some ds values type ≡ false → (parent : ℕ) → names_stranger ds values type parent ≡ false
  unfolding names_stranger is_stranger
  nameless e parent =
      none_asked_of (is_stranger ds values parent) _ _
      (λ i l h s. true_false (both (names_object ds values i) _ s).0 (any_none (names_object ds values) _ _ i e l h))

  -- where the first has another parent, it is one
  first_strange : names_some ds values type ≡ true → (parent : ℕ) → (parent_named ds values type ≡ parent → ⊥) → names_stranger ds values type parent ≡ true
  unfolding names_stranger is_stranger
  first_strange e parent other =
      let from = (columns_of ds type).from in
      let to = (columns_of ds type).to in
      let below = any_first (names_object ds values) from to e in
      let some = any_some (names_object ds values) from to e in
      any_at (is_stranger ds values parent) from to (first_named ds values type) (first_from (names_object ds values) from to) below
      (rw (first_holds (names_object ds values) from to below some, ne_eqb (parent_named ds values type) parent other))

  module _ (once : repeats ds values type ≡ false) (parent : ℕ) where
    -- the verdict and that parent tell whether one is
    by_verdict : (some mixed : Bool) → names_some ds values type ≡ some → names_stranger ds values type (parent_named ds values type) ≡ mixed → Dec (parent_named ds values type ≡ parent)
        → (eqb (cond (not some) 0 (cond mixed 2 1)) 2 || (eqb (cond (not some) 0 (cond mixed 2 1)) 1 && not (eqb (parent_named ds values type) parent))) ≡ names_stranger ds values type parent
    by_verdict false mixed s m d = sym (nameless s parent)
    by_verdict true true s m (yes same) = sym (ap (names_stranger ds values type) (sym same) ∙ m)
    by_verdict true true s m (no other) = sym (first_strange s parent other)
    by_verdict true false s m (yes same) = ap not (eq-eqb (parent_named ds values type) parent same) ∙ sym (ap (names_stranger ds values type) (sym same) ∙ m)
    by_verdict true false s m (no other) = ap not (ne_eqb (parent_named ds values type) parent other) ∙ sym (first_strange s parent other)

    pub strange_by_verdict : (eqb (verdict_of ds values type) 2 || (eqb (verdict_of ds values type) 1 && not (eqb (parent_named ds values type) parent))) ≡ names_stranger ds values type parent
    unfolding verdict_of
    strange_by_verdict = rw once (by_verdict _ _ refl refl (ℕ_discrete (parent_named ds values type) parent))

  -- and whether one is named twice
  pub repeats_by_verdict : eqb (verdict_of ds values type) 3 ≡ repeats ds values type
  unfolding verdict_of
  repeats_by_verdict = go (repeats ds values type) (not (names_some ds values type)) (names_stranger ds values type (parent_named ds values type))
    where
      go : (a b c : Bool) → eqb (cond a 3 (cond b 0 (cond c 2 1))) 3 ≡ a
      go true b c = refl
      go false true c = refl
      go false false true = refl
      go false false false = refl

  -- what the first tokens at fault say
  pub repeats_found : first_repeated ds values type < (columns_of ds type).to → repeats ds values type ≡ true
  unfolding repeats any
  repeats_found h = lt-ltb _ _ h

  pub repeats_none : (columns_of ds type).to ≤ first_repeated ds values type → repeats ds values type ≡ false
  unfolding repeats any
  repeats_none h = le-ltb _ _ h

  pub stranger_found : (parent : ℕ) → first_stranger ds values type parent < (columns_of ds type).to → names_stranger ds values type parent ≡ true
  unfolding names_stranger any
  stranger_found parent h = lt-ltb _ _ h

  pub stranger_none : (parent : ℕ) → (columns_of ds type).to ≤ first_stranger ds values type parent → names_stranger ds values type parent ≡ false
  unfolding names_stranger any
  stranger_none parent h = le-ltb _ _ h

  -- the verdict, test by test
  pub verdict_twice : repeats ds values type ≡ true → 3 ≡ verdict_of ds values type
  unfolding verdict_of
  verdict_twice e = rw e

  module _ (once : repeats ds values type ≡ false) where
    pub verdict_none : (columns_of ds type).to ≤ first_named ds values type → 0 ≡ verdict_of ds values type
    unfolding verdict_of any
    verdict_none h = rw (once, le-ltb (first_named ds values type) (columns_of ds type).to h)

    module _ (some : first_named ds values type < (columns_of ds type).to) where
      pub verdict_mixed : names_stranger ds values type (parent_named ds values type) ≡ true → 2 ≡ verdict_of ds values type
      unfolding verdict_of any
      verdict_mixed e = rw (once, lt-ltb (first_named ds values type) (columns_of ds type).to some, e)

      pub verdict_alike : names_stranger ds values type (parent_named ds values type) ≡ false → 1 ≡ verdict_of ds values type
      unfolding verdict_of any
      verdict_alike e = rw (once, lt-ltb (first_named ds values type) (columns_of ds type).to some, e)

-- ---- the loop that notes them all

-- those below a number are noted
pub record Noting (ds : List Definition) (values verdicts parents marks : List ℕ) (number : ℕ) : Type 0 where
  pub inside : number ≤ places
  pub verdicts_long : length verdicts ≡ places
  pub parents_long : length parents ≡ places
  pub verdict : (type : ℕ) → type < number → get_or verdicts type 0 ≡ verdict_of ds values type
  pub parent : (type : ℕ) → type < number → get_or parents type 0 ≡ parent_named ds values type
  pub stamped : Stamped marks (number + 1)

pub none_stamped : Stamped (replicate places 0) 1
none_stamped = record { long = length-replicate {A = ℕ} places 0; below = λ number. go number (dec_lt number places) }
  where
    go : (number : ℕ) → Dec (number < places) → get_or (replicate places 0) number 0 < 1
    go number (yes h) = omega (arith, get_or-replicate {A = ℕ} places number 0 0 h)
    go number (no h) = omega (arith, get_or-eq_default {A = ℕ} (replicate places 0) 0 {n = number} (omega (arith, length-replicate {A = ℕ} places 0)))

-- what does not reach a stamp reaches no later one
pub stamped_more : {marks : List ℕ} {a b : ℕ} → Stamped marks a → a ≤ b → Stamped marks b
stamped_more s h = record { long = s.long; below = λ number. omega (arith, s.below number) }

module _ (ds : List Definition) (values : List ℕ) (verdicts parents : List ℕ) where
  pub noting_start : length verdicts ≡ places → length parents ≡ places → Noting ds values verdicts parents (replicate places 0) 0
  noting_start a b = record {
    inside = omega arith;
    verdicts_long = a;
    parents_long = b;
    verdict = λ type h. absurd (omega arith);
    parent = λ type h. absurd (omega arith);
    stamped = none_stamped;
  }

  module _ (marks : List ℕ) (number : ℕ) (m : Noting ds values verdicts parents marks number) where
    pub noting_next : number < places → (v p : ℕ) (next : List ℕ) → Answered v (verdict_of ds values number) next (number + 1 + 1) → p ≡ parent_named ds values number
        → Noting ds values (set verdicts number v) (set parents number p) next (number + 1)
    noting_next h v p next a e = record {
      inside = omega arith;
      verdicts_long = length-set verdicts number v ∙ m.verdicts_long;
      parents_long = length-set parents number p ∙ m.parents_long;
      verdict = filled_more (λ (t x : ℕ). x ≡ verdict_of ds values t) verdicts number v m.verdict a.is (omega (arith, m.verdicts_long));
      parent = filled_more (λ (t x : ℕ). x ≡ parent_named ds values t) parents number p m.parent e (omega (arith, m.parents_long));
      stamped = a.stamped;
    }

    pub noting_end : places ≤ number → VerdictTable ds values verdicts parents
    noting_end h = record {
      verdicts_long = m.verdicts_long;
      parents_long = m.parents_long;
      verdict = λ type l. m.verdict type (omega arith);
      parent = λ type l. m.parent type (omega arith);
    }
