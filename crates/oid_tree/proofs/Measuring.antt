-- The loop that has each definition say where its numbers are: what it has stored changes no OID.
-- Assumes nothing.
use mathlib.Core.Path.{◌≡◌, sym, ap, ◌∙◌}
use mathlib.Core.Bool.{cond}
use mathlib.Core.Logic.{◌⊎◌, inl, inr, ⊎_elim}
use mathlib.Core.List.{List, []}
use Prim.Native.Nat.{ℕ, ◌+◌, ◌*◌, ◌≤◌, ◌<◌}
use native.Mathlib.Decide.{dec_lt}
use native.Mathlib.Omega.{arith}
use lib.ListN.{length, get_or-eq_default}
use Rattle.token.specs.Table.{longest_text}
use Rattle.module_table.specs.Definition.{width, definitions_in, absent, entry, changed, Stored}
use Rattle.module_table.specs.Module.{Module, count_of, most_definitions}
use Rattle.module_table.specs.declared.Definition.{Definition}
use Rattle.module_table.proofs.Table.{table_counted}
use Rattle.module_table.proofs.Filled.{Filling, filling_start, filling_more, filling_end, changed_counted, changed_entry}
use Rattle.oid_head.specs.Oid.{named_in, has_value, resolved_oid, first_number}
use Rattle.oid_tree.specs.Stage.{with_run, with_oid}
use Rattle.oid_head.specs.Unreached.{AllReach}
use Rattle.oid_tree.specs.Writing.{Countable, Measured}
use Rattle.oid_tree.proofs.Alike.{Alike, value_alike, reaches_alike, oid_alike}
use Rattle.oid_tree.proofs.Lengths.{longest, oid_few, first_more, first_none}

-- each definition is as it was, or says in addition where its numbers are
abbrev Placed : Module → List Definition → List Definition → Type 0
Placed m old new = (i : ℕ) → (entry new i ≡ entry old i) ⊎ (entry new i ≡ with_oid m i (entry old i))

placed_alike : (m : Module) (old new : List Definition) → length new ≡ length old → Placed m old new → Alike old new
unfolding with_oid
placed_alike m old new counted placed = record {
  counted = counted;
  kind = λ k. ⊎_elim (λ e. ap (λ (d : Definition). d.kind) e) (λ e. ap (λ (d : Definition). d.kind) e) (placed k);
  oid = λ k. ⊎_elim (λ e. ap (λ (d : Definition). d.oid) e) (λ e. ap (λ (d : Definition). d.oid) e) (placed k);
}

both_none : (old new : List Definition) → length new ≡ length old → (i : ℕ) → length old ≤ i → entry new i ≡ entry old i
both_none old new counted i h =
    get_or-eq_default new absent {n = i} (omega arith) ∙ sym (get_or-eq_default old absent {n = i} h)

-- all of them say it
pub stage_alike : (m : Module) (ds : List Definition) → Alike ds (changed (with_oid m) ds)
stage_alike m ds = placed_alike m ds (changed (with_oid m) ds) (changed_counted (with_oid m) ds) (λ i. go i (dec_lt i (length ds)))
  where
    go : (i : ℕ) → Dec (i < length ds) → (entry (changed (with_oid m) ds) i ≡ entry ds i) ⊎ (entry (changed (with_oid m) ds) i ≡ with_oid m i (entry ds i))
    go i (yes h) = inr (changed_entry (with_oid m) ds i h)
    go i (no h) = inl (both_none ds (changed (with_oid m) ds) (changed_counted (with_oid m) ds) i (omega arith))

module _ (classes values old : List ℕ) where
  abbrev m : Module
  m = named_in classes values old

  abbrev now : List ℕ → Module
  now new = named_in classes values new

  -- the loop is at definition k, whose numbers start here
  pub record Measuring (new : List ℕ) (start k : ℕ) : Type 0 where
    pub filling : Filling (with_oid m) old k new
    pub so_far : start ≡ first_number m k
    pub small : start ≤ k * longest

  pub measuring_start : Measuring old 0 0
  measuring_start = record {
    filling = filling_start (with_oid m) old;
    so_far = sym (first_none m);
    small = omega arith;
  }

  module _ (new : List ℕ) (start k : ℕ) (w : Measuring new start k) where
    filled_alike : Alike (definitions_in old) (definitions_in new)
    filled_alike = placed_alike m (definitions_in old) (definitions_in new) w.filling.counted (λ i. go i (dec_lt i k) (dec_lt i (count_of m)))
      where
        go : (i : ℕ) → Dec (i < k) → Dec (i < count_of m)
            → (entry (definitions_in new) i ≡ entry (definitions_in old) i) ⊎ (entry (definitions_in new) i ≡ with_oid m i (entry (definitions_in old) i))
        go i (yes h) (yes l) = inr (w.filling.done i h l)
        go i (yes h) (no l) = inl (both_none (definitions_in old) (definitions_in new) w.filling.counted i (omega arith))
        go i (no h) l = inl (w.filling.left i (omega arith))

    -- the OIDs are those that they were
    pub filled_oid : (i : ℕ) → resolved_oid (now new) i ≡ resolved_oid m i
    filled_oid i = oid_alike classes values (definitions_in old) (definitions_in new) [] [] filled_alike i

    module _ (short : length classes ≤ longest_text) (few : length old ≤ most_definitions * width) where
      definitions_few : count_of m ≤ most_definitions
      definitions_few = omega (arith, table_counted old)

      -- and what is stored so far can be gone by
      pub filled_countable : Countable (now new) k
      unfolding with_oid
      filled_countable = record {
        short = short;
        few = omega (arith, definitions_few, w.filling.counted);
        counts = λ i h l.
            ap (λ (d : Definition). d.count) (w.filling.done i h (omega (arith, w.filling.counted)))
            ∙ sym (ap length (filled_oid i));
      }

      pub filled_few : (i : ℕ) → length (resolved_oid (now new) i) ≤ longest
      filled_few i = omega (arith, ap length (filled_oid i), oid_few m short definitions_few i)

      pub index_few : k < count_of m → k < most_definitions
      index_few h = omega (arith, definitions_few)

    pub filled_reach : AllReach m → AllReach (now new)
    filled_reach reach i h v =
        let same = reaches_alike classes values (definitions_in old) (definitions_in new) [] [] filled_alike i in
        let value = value_alike classes values (definitions_in old) (definitions_in new) [] [] filled_alike i in
        same ∙ reach i (omega (arith, w.filling.counted)) (sym value ∙ v)

    -- definition k is stored
    pub measuring_more : (count : ℕ) → count ≡ length (resolved_oid (now new) k) → count ≤ longest → k < count_of m
        → (own d : Definition) → own ≡ entry (definitions_in new) k → d ≡ with_run (cond (has_value own) start 0) count own
        → (next : List ℕ) → Stored new k d next → Measuring next (start + count) (k + 1)
    unfolding with_oid
    measuring_more count counted short h own d read is next stored =
        let length_is : count ≡ length (resolved_oid m k) = counted ∙ ap length (filled_oid k) in
        let same : own ≡ entry (definitions_in old) k = read ∙ w.filling.left k (omega arith) in
        record {
          filling = filling_more (with_oid m) old k new next d w.filling h stored
              (is ∙ ap (with_run (cond (has_value own) start 0) count) same
              ∙ ap (λ (o : Definition). with_run (cond (has_value o) start 0) count (entry (definitions_in old) k)) same
              ∙ ap (λ (n : ℕ). with_run (cond (has_value (entry (definitions_in old) k)) n 0) count (entry (definitions_in old) k)) w.so_far
              ∙ ap (λ (n : ℕ). with_run (cond (has_value (entry (definitions_in old) k)) (first_number m k) 0) n (entry (definitions_in old) k)) length_is);
          so_far = omega (arith, w.so_far, length_is, first_more m k);
          small = omega (arith, w.small);
        }

    -- all are stored
    pub measuring_end : count_of m ≤ k → Measured m old new
    measuring_end all = record {
      as_long = w.filling.as_long;
      placed = filling_end (with_oid m) old k new w.filling all;
    }
