-- How many numbers the OIDs of all definitions have, counted one after the other.
-- Assumes nothing.
use mathlib.Core.Path.{◌≡◌, refl, sym, ap, ◌∙◌}
use mathlib.Core.List.{List}
use Prim.Native.Nat.{ℕ, zero, suc, ◌+◌, ◌≤◌, ◌<◌}
use native.Mathlib.Decide.{dec_lt}
use native.Mathlib.Numerals.{add-one}
use native.Mathlib.Omega.{arith}
use lib.ListN.{length}
use Rattle.module_table.specs.declared.Definition.{Definition}
use Rattle.module_table.specs.Definition.{entry}
use Rattle.module_table.specs.Module.{Module, count_of}
use Rattle.module_table.proofs.Filled.{changed_counted}
use Rattle.token.specs.Token.{Meaning}
use Rattle.naming.specs.Values.{named}
use Rattle.oid_head.specs.Oid.{first_number}
use Rattle.oid_tree.specs.Stage.{with_oid, with_oids}
use Rattle.oid_tree.specs.Refusal.{counts_before}
use Rattle.type_class.specs.Stage.{convention_classed, conventions_classed, object_classed, definitions_classed}
use Rattle.object_tree.specs.Tree.{parent_of, with_parent, parents_added}
use Rattle.reader.specs.Reading.{numbered, classed, module_of}
use Rattle.oid_tree.proofs.Counted.{stage_count}
use Rattle.oid_tree.proofs.Lengths.{first_more, first_none}

module _ (ds : List Definition) where
  pub none_counted : counts_before ds 0 ≡ 0
  unfolding counts_before
  none_counted = refl

  pub one_more : (k : ℕ) → counts_before ds (k + 1) ≡ counts_before ds k + (entry ds k).count
  unfolding counts_before
  one_more k = rw (add-one k)

  -- the first ones have no more than all
  pub counts_grow : (j k : ℕ) → j ≤ k → counts_before ds j ≤ counts_before ds k
  counts_grow j zero h = let same : j ≡ 0 = omega arith in rw same (omega arith)
  counts_grow j (suc k) h = go (dec_lt j (suc k)) (λ l. counts_grow j k l)
    where
      go : Dec (j < suc k) → (j ≤ k → counts_before ds j ≤ counts_before ds k) → counts_before ds j ≤ counts_before ds (suc k)
      go (yes l) before = omega (arith, before (omega arith), rw (add-one k) at (one_more k))
      go (no l) before = let same : j ≡ suc k = omega arith in rw same (omega arith)

-- with its OIDs, a module has as many numbers as its definitions say
module _ (m : Module) where
  counted_to : (k : ℕ) → k ≤ count_of m → counts_before (with_oids m).definitions k ≡ first_number m k
  unfolding with_oids
  counted_to zero h = none_counted (with_oids m).definitions ∙ sym (first_none m)
  counted_to (suc k) h =
      rw (← (add-one k))
      (omega (arith, one_more (with_oids m).definitions k, stage_count m k (omega arith), counted_to k (omega arith), first_more m k))

  pub oids_counted : length (with_oids m).definitions ≡ count_of m
  unfolding with_oids
  oids_counted = changed_counted (with_oid m) m.definitions

  pub numbers_counted : counts_before (with_oids m).definitions (length (with_oids m).definitions) ≡ length (with_oids m).numbers
  unfolding with_oids
  numbers_counted = ap (counts_before (with_oids m).definitions) oids_counted ∙ counted_to (count_of m) (omega arith)

-- parents leave the number of definitions
pub parents_counted : (numbers : List ℕ) (ds : List Definition) → length (parents_added numbers ds) ≡ length ds
unfolding parents_added
parents_counted numbers ds = changed_counted (λ (k : ℕ) (d : Definition). with_parent (parent_of ds numbers k) d) ds

-- and so do classes
pub classes_counted : (cs vs : List ℕ) (ds : List Definition) → length (definitions_classed cs vs ds) ≡ length ds
classes_counted cs vs ds =
    changed_counted (λ (k : ℕ) (d : Definition). object_classed cs vs (conventions_classed cs vs ds) d) (conventions_classed cs vs ds)
    ∙ changed_counted (λ (k : ℕ) (d : Definition). convention_classed cs vs d) ds

module _ (ms : List Meaning) where
  pub classed_counted : length (classed ms).definitions ≡ count_of (named ms)
  classed_counted = classes_counted (numbered ms).classes (numbered ms).values (numbered ms).definitions ∙ oids_counted (named ms)

  pub module_counted : count_of (module_of ms) ≡ count_of (named ms)
  module_counted = parents_counted (classed ms).numbers (classed ms).definitions ∙ classed_counted
