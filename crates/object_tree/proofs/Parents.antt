-- An object and its parent, by the keys of their OIDs; and the definitions with the parents that an array has.
-- Assumes nothing.
use mathlib.Core.Path.{◌≡◌, refl, sym, ap, ◌∙◌}
use mathlib.Core.Bool.{Bool, true, false, ◌&&◌}
use mathlib.Core.List.{List, [], ◌∷◌, ◌++◌}
use Prim.Native.Nat.{ℕ, ◌+◌, ◌-◌, ◌≤◌, ◌<◌}
use native.Mathlib.Omega.{arith}
use lib.ListN.{length, take, drop, length-append}
use lib.Seq.{take-append_seam, take-take, ext_get_or}
use Rattle.index.proofs.Search.{true_false}
use Rattle.chain.specs.Key.{list_key}
use Rattle.module_table.specs.Definition.{absent, entry, changed}
use Rattle.module_table.specs.Module.{oid_in}
use Rattle.module_table.specs.declared.Definition.{Definition}
use Rattle.module_table.proofs.Filled.{changed_counted, changed_entry}
use Rattle.oid_run.specs.Run.{run, is_below}
use Rattle.oid_run.proofs.Runs.{below_equal, run_length}
use Rattle.object_tree.specs.Words.{is_object}
use Rattle.object_tree.specs.Tree.{is_parent, parent_of, with_parent, with_parents_of, parents_added, ParentTable}

-- both of two tests hold
pub both : (a b : Bool) → (a && b) ≡ true → (a ≡ true) × (b ≡ true)
both true b e = (refl, e)
both false b e = absurd (true_false refl (sym e))

-- a list followed by one number, less that number
less_last : (a b : List ℕ) (number : ℕ) → b ≡ a ++ (number ∷ []) → take (length b - 1) b ≡ a
less_last a b number e =
    let long : length b - 1 ≡ length a = omega (arith, ap length e, length-append a (number ∷ [])) in
    ap (λ (n : ℕ). take n b) long ∙ ap (take (length a)) e ∙ take-append_seam a (number ∷ [])

module _ (numbers : List ℕ) (parent child : Definition) where
  -- a parent has the key of the child's OID less its last number
  pub parent_alike : is_parent numbers parent child ≡ true → list_key (oid_in numbers parent) ≡ list_key (take (length (oid_in numbers child) - 1) (oid_in numbers child))
  unfolding is_parent
  parent_alike e =
      let below = (both (is_object child) _ (both (is_object parent) _ e).1).1 in
      let found = below_equal (oid_in numbers parent) (oid_in numbers child) below in
      ap list_key (sym (less_last (oid_in numbers parent) (oid_in numbers child) found.0 found.1))

  -- what is no object is no child
  pub no_child : is_object child ≡ false → is_parent numbers parent child ≡ false
  unfolding is_parent
  no_child e = go (is_object parent) (is_object child) (is_below (oid_in numbers parent) (oid_in numbers child)) e
    where
      go : (a b c : Bool) → b ≡ false → (a && (b && c)) ≡ false
      go true true c e = absurd (true_false refl e)
      go true false c e = refl
      go false b c e = refl

  -- the tests in the order of the code
  pub not_parent : is_object parent ≡ false → false ≡ is_parent numbers parent child
  unfolding is_parent
  not_parent e = rw e

  pub parent_below : is_object parent ≡ true → is_object child ≡ true → is_below (oid_in numbers parent) (oid_in numbers child) ≡ is_parent numbers parent child
  unfolding is_parent
  parent_below e f = rw (e, f)

-- with the parents of the array each definition has its own
pub parents_stored : (ds : List Definition) (numbers parents : List ℕ) → ParentTable ds numbers parents → changed (with_parents_of parents) ds ≡ parents_added numbers ds
unfolding parents_added
parents_stored ds numbers parents t =
    ext_get_or absent _ _ (changed_counted (with_parents_of parents) ds ∙ sym (changed_counted own ds))
    (λ i h.
    let inside : i < length ds = omega (arith, changed_counted (with_parents_of parents) ds) in
    changed_entry (with_parents_of parents) ds i inside ∙ ap (λ (p : ℕ). with_parent p (entry ds i)) (t.entry i inside) ∙ sym (changed_entry own ds i inside))
  where
    own : ℕ → Definition → Definition
    own k d = with_parent (parent_of ds numbers k) d

-- a run less its last number
pub run_less : (numbers : List ℕ) (from count less : ℕ) (oid : List ℕ) → from + count ≤ length numbers → run numbers from count ≡ oid → less ≡ count - 1
    → run numbers from less ≡ take (length oid - 1) oid
run_less numbers from count less oid h held is =
    let long : length oid ≡ count = sym (ap length held) ∙ run_length numbers from count h in
    let same : less ≡ length oid - 1 = omega (arith, long, is) in
    sym (take-take less count (drop from numbers) (omega (arith, is))) ∙ ap (take less) held ∙ ap (λ (n : ℕ). take n oid) same

-- the same lists stand the same way to each other
pub below_same : {a b x y : List ℕ} → a ≡ x → b ≡ y → is_below a b ≡ is_below x y
below_same p q = cc
