-- The walk of a list that marks each object that it names with a stamp: a mark says whether the object was named before.
-- Assumes nothing.
use mathlib.Core.Path.{◌≡◌, refl, sym, ap, ◌∙◌}
use mathlib.Core.Bool.{Bool, true, false, cond, not, ◌&&◌}
use mathlib.Core.List.{List}
use Prim.Native.Nat.{ℕ, ◌+◌, ◌≤◌, ◌<◌}
use native.Mathlib.Decide.{ℕ_discrete}
use native.Mathlib.Omega.{arith}
use lib.Dec.{eqb, ltb}
use lib.ListN.{length, get_or, length-set}
use lib.Seq.{get_or-set_same, get_or-set_other}
use borrow.Author.Tests.{eq-eqb, ne_eqb, ltb-true}
use Rattle.index.specs.First.{first, any}
use Rattle.index.proofs.Search.{any_at}
use Rattle.module_table.specs.declared.Definition.{Definition}
use Rattle.object_tree.specs.Words.{is_object, numbered, number_at}
use Rattle.object_tree.proofs.Numbers.{number_few}
use Rattle.sequence_list.specs.Named.{type_of, named_at, names, is_repeated}
use Rattle.sequence_list.specs.Held.{places, Stamped, Marked}
use Rattle.sequence_list.proofs.Asking.{asking_miss, any_empty, any_longer}

-- the number of a SEQUENCE type has a place
pub type_few : (d : Definition) → type_of d < places
type_few d = go (ltb d.sequence places) refl
  where
    go : (b : Bool) → ltb d.sequence places ≡ b → cond b d.sequence 0 < places
    go true e = omega (arith, ltb-true d.sequence places e)
    go false e = omega arith

-- a token names one of 512 objects at most
pub named_few : (ds : List Definition) (values : List ℕ) (i : ℕ) → named_at ds values i < places
unfolding named_at
named_few ds values i = go (is_object (numbered ds (number_at values i)))
  where
    go : (b : Bool) → cond b (number_at values i) 0 < places
    go true = omega (arith, number_few values i)
    go false = omega arith

-- the walk of the tokens from `from` on, up to `to`, is at token i
pub record Marking (ds : List Definition) (values : List ℕ) (from to stamp : ℕ) (marks : List ℕ) (i : ℕ) : Type 0 where
  pub from_on : from ≤ i
  pub long : length marks ≡ places
  pub below : (number : ℕ) → get_or marks number 0 < stamp + 1
  pub seen : (number : ℕ) → number < places → eqb (get_or marks number 0) stamp ≡ any (names ds values number) from i
  pub passed : first (is_repeated ds values from) i to ≡ first (is_repeated ds values from) from to

module _ (ds : List Definition) (values : List ℕ) (from to stamp : ℕ) (marks : List ℕ) where
  pub marking_start : Stamped marks stamp → Marking ds values from to stamp marks from
  marking_start s = record {
    from_on = omega arith;
    long = s.long;
    below = λ number. omega (arith, s.below number);
    seen = λ number h.
        ne_eqb (get_or marks number 0) stamp (λ e. omega (arith, s.below number))
        ∙ sym (any_empty (names ds values number) from from (omega arith));
    passed = refl;
  }

  module _ (i : ℕ) (m : Marking ds values from to stamp marks i) (number : ℕ) (is : number ≡ named_at ds values i) (answer : Bool) (new : List ℕ) (s : Marked marks number stamp answer new) where
    inside : number < places
    inside = omega (arith, is, named_few ds values i)

    -- the answer is whether the token repeats
    pub marking_asked : answer ≡ is_repeated ds values from i
    unfolding is_repeated
    marking_asked =
        s.is ∙ ap (λ (b : Bool). not (eqb number 0) && b) (m.seen number inside)
        ∙ ap (λ (n : ℕ). not (eqb n 0) && any (names ds values n) from i) is

    entry_own : get_or new number 0 ≡ stamp
    entry_own = ap (λ (l : List ℕ). get_or l number 0) s.marked ∙ get_or-set_same marks number stamp 0 (omega (arith, m.long, inside))

    entry_other : (n : ℕ) → (n ≡ number → ⊥) → get_or new n 0 ≡ get_or marks n 0
    entry_other n other = ap (λ (l : List ℕ). get_or l n 0) s.marked ∙ get_or-set_other marks number n stamp 0 other

    pub marking_below : (n : ℕ) → get_or new n 0 < stamp + 1
    marking_below n = go (ℕ_discrete n number)
      where
        go : Dec (n ≡ number) → get_or new n 0 < stamp + 1
        go (yes same) = omega (arith, ap (λ (x : ℕ). get_or new x 0) same, entry_own)
        go (no other) = omega (arith, entry_other n other, m.below n)

    pub marking_long : length new ≡ places
    marking_long = ap length s.marked ∙ length-set marks number stamp ∙ m.long

    pub marking_next : i < to → answer ≡ false → Marking ds values from to stamp new (i + 1)
    marking_next h e = record {
      from_on = omega (arith, m.from_on);
      long = marking_long;
      below = marking_below;
      seen = λ n l. seen n l (ℕ_discrete n number);
      passed = asking_miss (is_repeated ds values from) from to i m.passed h (sym marking_asked ∙ e);
    }
      where
        seen : (n : ℕ) → n < places → Dec (n ≡ number) → eqb (get_or new n 0) stamp ≡ any (names ds values n) from (i + 1)
        seen n l (yes same) =
            eq-eqb (get_or new n 0) stamp (ap (λ (x : ℕ). get_or new x 0) same ∙ entry_own)
            ∙ sym (any_at (names ds values n) from (i + 1) i m.from_on (omega arith) (eq-eqb (named_at ds values i) n (sym (same ∙ is))))
        seen n l (no other) =
            ap (λ (x : ℕ). eqb x stamp) (entry_other n other) ∙ m.seen n l
            ∙ any_longer (names ds values n) from i m.from_on (ne_eqb (named_at ds values i) n (λ e. other (sym (is ∙ e))))
