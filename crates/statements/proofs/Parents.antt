-- What the parent of a definition is, where no OID is held twice: the object whose OID is its own less the last number.
-- Assumes nothing.
use mathlib.Core.Path.{◌≡◌, refl, sym, ap, ◌∙◌}
use mathlib.Core.Logic.{◌↔◌}
use mathlib.Core.Bool.{Bool, true}
use mathlib.Core.List.{List, [], ◌∷◌, ◌++◌}
use Prim.Native.Nat.{ℕ, zero, suc, ◌+◌, ◌-◌, ◌<◌}
use native.Mathlib.Decide.{dec_lt}
use native.Mathlib.Omega.{arith}
use lib.Dec.{eqb}
use lib.ListN.{length, get_or, take, length-append}
use lib.Seq.{take_at, get_or-append-add}
use Rattle.lexicon.proofs.Words.{same_equal}
use Rattle.index.proofs.Search.{true_false}
use Rattle.chain.specs.Chain.{last_before}
use Rattle.chain.proofs.Chain.{last_inside, last_holds, last_passed}
use Rattle.token.specs.Token.{Meaning}
use Rattle.definition.specs.Landmark.{identity, object_identity}
use Rattle.module_table.specs.declared.Definition.{Definition}
use Rattle.module_table.specs.Definition.{entry}
use Rattle.module_table.specs.Module.{Module, at, oid_in, oid_of}
use Rattle.module_table.proofs.Filled.{changed_entry, column_kept}
use Rattle.oid_holder.specs.Holder.{is_holder}
use Rattle.oid_run.specs.Run.{is_below}
use Rattle.object_tree.specs.Words.{is_object}
use Rattle.object_tree.specs.Tree.{is_parent, parent_of, with_parent, parents_added}
use Rattle.reader.specs.Reading.{numbered, classed, module_of}
use Rattle.statements.specs.Breach.{definition_count, name_token, ModuleBreach, held_twice, parent}
use Rattle.statements.specs.Searches.{IsParent}
use Rattle.statements.proofs.Tests.{both, joined, left, right}
use Rattle.statements.proofs.Rising.{classed_keeps, module_keeps}
use Rattle.statements.proofs.NameBreaches.{spelled_same}
use Rattle.statements.proofs.OidBreaches.{all_there}
use Rattle.reader.proofs.Leaving.{module_leaves}

-- a list without its last number
same_before : (xs ys : List ℕ) (x y : ℕ) → xs ++ (x ∷ []) ≡ ys ++ (y ∷ []) → xs ≡ ys
same_before xs ys x y e = sym (less xs x) ∙ ap (λ (zs : List ℕ). take (length zs - 1) zs) e ∙ less ys y
  where
    less : (zs : List ℕ) (z : ℕ) → take (length (zs ++ (z ∷ [])) - 1) (zs ++ (z ∷ [])) ≡ zs
    less zs z = take_at zs (z ∷ []) (length (zs ++ (z ∷ [])) - 1) (omega (arith, length-append zs (z ∷ [])))

-- one OID is below another
below_is : (a b : List ℕ) → is_below a b ≡ true → (last : ℕ) × (b ≡ a ++ (last ∷ []))
unfolding is_below
below_is a b e = (get_or b (length a) 0, sym (same_equal _ _ e))

is_below_by : (a b : List ℕ) (last : ℕ) → b ≡ a ++ (last ∷ []) → is_below a b ≡ true
unfolding is_below
is_below_by a b last e = spelled_same _ _ (ap (λ (x : ℕ). a ++ (x ∷ [])) number ∙ sym e)
  where
    number : get_or b (length a) 0 ≡ last
    number =
        let here : length a ≡ length a + 0 = omega arith in
        ap (λ (l : List ℕ). get_or l (length a) 0) e ∙ ap (λ (i : ℕ). get_or (a ++ (last ∷ [])) i 0) here ∙ get_or-append-add a (last ∷ []) 0 0

module _ (ms : List Meaning) (kept : (i : ℕ) → ModuleBreach ms 15 i → ⊥) where
  abbrev m : Module
  m = module_of ms

  abbrev ds : List Definition
  ds = (classed ms).definitions

  -- what a definition has before its parent is known it has afterwards
  before : {B : Type 0} (g : Definition → B) → ((p : ℕ) (d : Definition) → g (with_parent p d) ≡ g d) → (k : ℕ) → g (at m k) ≡ g (entry ds k)
  unfolding parents_added
  before g leaves k = column_kept g (λ (i : ℕ) (d : Definition). with_parent (parent_of ds m.numbers i) d) (λ i d. leaves _ d) ds k

  parent_is : (k : ℕ) → k < definition_count ms → parent m k ≡ parent_of ds m.numbers k
  unfolding parents_added
  parent_is k h =
      ap (λ (d : Definition). d.parent)
      (changed_entry (λ (i : ℕ) (d : Definition). with_parent (parent_of ds m.numbers i) d) ds k (omega (arith, all_there ms (classed_keeps ms))))

  abbrev test : ℕ → ℕ → Bool
  test k j = is_parent m.numbers (entry ds j) (entry ds k)

  -- the test, in plain words
  tested : (k j : ℕ) → j < length ds → test k j ≡ true → IsParent m j k
  unfolding is_parent
  tested k j h e =
      let x = both (is_object (entry ds j)) _ e in
      let y = both (is_object (entry ds k)) _ x.1 in
      let z = below_is _ _ y.1 in (
        omega (arith, all_there ms (classed_keeps ms), all_there ms (module_keeps ms)),
        before is_object (λ p d. refl) j ∙ x.0,
        before is_object (λ p d. refl) k ∙ y.0,
        z.0,
        before (oid_in m.numbers) (λ p d. refl) k ∙ z.1 ∙ ap (λ (l : List ℕ). l ++ (z.0 ∷ [])) (sym (before (oid_in m.numbers) (λ p d. refl) j)),
      )

  test_of : (k j : ℕ) → IsParent m j k → test k j ≡ true
  unfolding is_parent
  test_of k j x =
      joined (sym (before is_object (λ p d. refl) j) ∙ x.1)
      (joined (sym (before is_object (λ p d. refl) k) ∙ x.2)
      (is_below_by _ _ x.3
      (sym (before (oid_in m.numbers) (λ p d. refl) k) ∙ x.4 ∙ ap (λ (l : List ℕ). l ++ (x.3 ∷ [])) (before (oid_in m.numbers) (λ p d. refl) j))))

  -- an object holds its OID
  holder : (j : ℕ) → is_object (at m j) ≡ true → is_holder (at (numbered ms) j) ≡ true
  holder j e =
      let o : is_object (at (numbered ms) j) ≡ true = sym (module_leaves is_object (λ d class sequence. refl) (λ p d. refl) ms j) ∙ e in
      right (eqb (at (numbered ms) j).kind identity) (right (eqb (at (numbered ms) j).kind object_identity) (left _ o))

  -- there is one parent
  not_two : (k i j : ℕ) → i < j → IsParent m i k → IsParent m j k → ⊥
  not_two k i j l x y =
      let h : j < definition_count ms = omega (arith, y.0, all_there ms (module_keeps ms)) in
      let oids : oid_of m i ≡ oid_of m j = same_before _ _ x.3 y.3 (sym x.4 ∙ y.4) in
      kept (name_token ms j)
      (held_twice i h l (holder j y.1) (holder i x.1)
      (sym (module_leaves (oid_in m.numbers) (λ d class sequence. refl) (λ p d. refl) ms i) ∙ oids
      ∙ module_leaves (oid_in m.numbers) (λ d class sequence. refl) (λ p d. refl) ms j))

  pub parents : (k j : ℕ) → k < definition_count ms → (parent m k ≡ suc j) ↔ IsParent m j k
  parents k j h = (
    λ e.
        let is = sym (parent_is k h) ∙ e in
        tested k j (omega (arith, is, last_inside (test k) (length ds))) (last_holds (test k) (length ds) j is),
    λ x. parent_is k h ∙ go x (last_before (test k) (length ds)) refl,
  )
    where
      go : IsParent m j k → (l : ℕ) → last_before (test k) (length ds) ≡ l → l ≡ suc j
      go x zero is = absurd (true_false (test_of k j x) (last_passed (test k) (length ds) j (omega (arith, is)) (omega (arith, x.0, all_there ms (classed_keeps ms), all_there ms (module_keeps ms)))))
      go x (suc i) is = which (dec_lt i j) (dec_lt j i)
        where
          found : IsParent m i k
          found = tested k i (omega (arith, is, last_inside (test k) (length ds))) (last_holds (test k) (length ds) i is)

          which : Dec (i < j) → Dec (j < i) → suc i ≡ suc j
          which (yes l) d = absurd (true_false (test_of k j x) (last_passed (test k) (length ds) j (omega (arith, is)) (omega (arith, x.0, all_there ms (classed_keeps ms), all_there ms (module_keeps ms)))))
          which (no l) (yes g) = absurd (not_two k j i g x found)
          which (no l) (no g) = omega arith
