-- What the stages after the OIDs leave of a definition: all but its class and its parent. So the module's OIDs are those of its names.
-- Assumes nothing.
use mathlib.Core.Path.{◌≡◌, refl, ◌∙◌}
use mathlib.Core.Bool.{Bool, true, false, cond}
use mathlib.Core.List.{List}
use Prim.Native.Nat.{ℕ}
use lib.Dec.{eqb}
use lib.ListN.{take}
use lib.Seq.{take-length}
use Rattle.token.specs.Token.{Meaning}
use Rattle.definition.specs.Landmark.{object, convention}
use Rattle.module_table.specs.declared.Definition.{Definition}
use Rattle.module_table.specs.Definition.{entry}
use Rattle.module_table.specs.Module.{Module, at, count_of, oid_in, oid_of}
use Rattle.module_table.proofs.Filled.{column_kept}
use Rattle.naming.specs.Values.{named}
use Rattle.oid_head.specs.Oid.{resolved_oid, numbers_before, first_number}
use Rattle.oid_tree.specs.Stage.{with_oid, with_oids}
use Rattle.oid_tree.proofs.Cut.{buffer_oid}
use Rattle.type_class.specs.Stage.{with_class, convention_classed, object_classed, conventions_classed, definitions_classed}
use Rattle.object_tree.specs.Tree.{parent_of, with_parent, parents_added}
use Rattle.reader.specs.Reading.{numbered, classed, module_of}

-- a definition is left as it is, or has another class
either : {B : Type 0} (g : Definition → B) (b : Bool) (d e : Definition) → g e ≡ g d → g (cond b e d) ≡ g d
either g true d e same = same
either g false d e same = refl

-- what no class changes
pub classes_leave : {B : Type 0} (g : Definition → B) → ((d : Definition) (class sequence : ℕ) → g (with_class d class sequence) ≡ g d)
    → (cs vs : List ℕ) (ds : List Definition) (k : ℕ) → g (entry (definitions_classed cs vs ds) k) ≡ g (entry ds k)
unfolding convention_classed object_classed
classes_leave g same cs vs ds k =
    column_kept g (λ i. λ d. object_classed cs vs (conventions_classed cs vs ds) d) (λ i d. either g (eqb d.kind object) d _ (same d _ _)) (conventions_classed cs vs ds) k
    ∙ column_kept g (λ i. λ d. convention_classed cs vs d) (λ i d. either g (eqb d.kind convention) d _ (same d _ _)) ds k

-- what no parent changes
pub parents_leave : {B : Type 0} (g : Definition → B) → ((parent : ℕ) (d : Definition) → g (with_parent parent d) ≡ g d)
    → (numbers : List ℕ) (ds : List Definition) (k : ℕ) → g (entry (parents_added numbers ds) k) ≡ g (entry ds k)
unfolding parents_added
parents_leave g same numbers ds k =
    column_kept g (λ (i : ℕ) (d : Definition). with_parent (parent_of ds numbers i) d) (λ i d. same _ d) ds k

-- what neither changes
pub module_leaves : {B : Type 0} (g : Definition → B) → ((d : Definition) (class sequence : ℕ) → g (with_class d class sequence) ≡ g d)
    → ((parent : ℕ) (d : Definition) → g (with_parent parent d) ≡ g d)
    → (ms : List Meaning) (k : ℕ) → g (at (module_of ms) k) ≡ g (at (numbered ms) k)
module_leaves g class parent ms k =
    parents_leave g parent (classed ms).numbers (classed ms).definitions k
    ∙ classes_leave g class (numbered ms).classes (numbered ms).values (numbered ms).definitions k

module _ (ms : List Meaning) where
  abbrev m : Module
  m = named ms

  -- a buffer that starts with the numbers of all definitions
  pub module_oid : (buffer : List ℕ) → take (first_number m (count_of m)) buffer ≡ numbers_before m (count_of m)
      → (k : ℕ) → oid_in buffer (at (module_of ms) k) ≡ resolved_oid m k
  module_oid buffer held k =
      module_leaves (oid_in buffer) (λ d class sequence. refl) (λ parent d. refl) ms k ∙ buffer_oid m buffer held k

  -- the module's own numbers are such a buffer
  pub recorded_oid : (k : ℕ) → oid_of (module_of ms) k ≡ resolved_oid m k
  unfolding with_oids
  recorded_oid = module_oid (numbers_before m (count_of m)) (take-length (numbers_before m (count_of m)))

  -- no stage changes a kind
  pub module_kind : (k : ℕ) → (at (module_of ms) k).kind ≡ (at m k).kind
  unfolding with_oids with_oid
  module_kind k =
      module_leaves (λ (d : Definition). d.kind) (λ d class sequence. refl) (λ parent d. refl) ms k
      ∙ column_kept (λ (d : Definition). d.kind) (with_oid m) (λ i d. refl) m.definitions k
