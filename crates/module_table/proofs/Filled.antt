-- A stage changes each definition by its index: what its entries are, and the loop that stores them one after the other.
-- Assumes nothing.
use mathlib.Core.Path.{◌≡◌, refl, sym, ap, ◌∙◌}
use mathlib.Core.List.{List, [], ◌∷◌}
use Prim.Native.Nat.{ℕ, zero, suc, ◌+◌, ◌≤◌, ◌<◌}
use native.Mathlib.Decide.{dec_lt, ℕ_discrete}
use native.Mathlib.Omega.{arith}
use lib.ListN.{length, set, length-set, get_or-eq_default}
use lib.Seq.{get_or-set_same, get_or-set_other, ext_get_or}
use Rattle.module_table.specs.declared.Definition.{Definition}
use Rattle.module_table.specs.Definition.{definitions_in, absent, entry, changed_from, changed, Stored}

module _ (f : ℕ → Definition → Definition) where
  changed_length : (i : ℕ) (ds : List Definition) → length (changed_from f i ds) ≡ length ds
  unfolding changed_from
  changed_length i [] = refl
  changed_length i (d ∷ ds) = ap suc (changed_length (suc i) ds)

  changed_at : (i : ℕ) (ds : List Definition) (k : ℕ) → k < length ds → entry (changed_from f i ds) k ≡ f (i + k) (entry ds k)
  unfolding changed_from
  changed_at i [] k h = absurd (omega arith)
  changed_at i (d ∷ ds) zero h = let same : i ≡ i + 0 = omega arith in ap (λ (x : ℕ). f x d) same
  changed_at i (d ∷ ds) (suc k) h =
      let same : suc i + k ≡ i + suc k = omega arith in
      changed_at (suc i) ds k (omega arith) ∙ ap (λ (x : ℕ). f x (entry ds k)) same

  -- as many as there were
  pub changed_counted : (ds : List Definition) → length (changed f ds) ≡ length ds
  changed_counted ds = changed_length 0 ds

  -- each is changed
  pub changed_entry : (ds : List Definition) (k : ℕ) → k < length ds → entry (changed f ds) k ≡ f k (entry ds k)
  changed_entry ds k h =
      let same : 0 + k ≡ k = omega arith in
      changed_at 0 ds k h ∙ ap (λ (x : ℕ). f x (entry ds k)) same

-- the loop has changed the first k definitions
pub record Filling (f : ℕ → Definition → Definition) (old : List ℕ) (k : ℕ) (new : List ℕ) : Type 0 where
  pub as_long : length new ≡ length old
  pub counted : length (definitions_in new) ≡ length (definitions_in old)
  pub done : (i : ℕ) → i < k → i < length (definitions_in old) → entry (definitions_in new) i ≡ f i (entry (definitions_in old) i)
  pub left : (i : ℕ) → k ≤ i → entry (definitions_in new) i ≡ entry (definitions_in old) i

pub filling_start : (f : ℕ → Definition → Definition) (old : List ℕ) → Filling f old 0 old
filling_start f old = record {
  as_long = refl;
  counted = refl;
  done = λ i h l. absurd (omega arith);
  left = λ i h. refl;
}

-- definition k is changed next
pub filling_more : (f : ℕ → Definition → Definition) (old : List ℕ) (k : ℕ) (new next : List ℕ) (d : Definition) → Filling f old k new
    → k < length (definitions_in old) → Stored new k d next → d ≡ f k (entry (definitions_in old) k) → Filling f old (k + 1) next
filling_more f old k new next d s inside stored is = record {
  as_long = stored.as_long ∙ s.as_long;
  counted = ap length stored.held ∙ length-set (definitions_in new) k d ∙ s.counted;
  done = λ i h l. done i h l (ℕ_discrete i k);
  left = λ i h. held i ∙ get_or-set_other (definitions_in new) k i d absent (λ q. omega arith) ∙ s.left i (omega arith);
}
  where
    held : (i : ℕ) → entry (definitions_in next) i ≡ entry (set (definitions_in new) k d) i
    held i = ap (λ (ds : List Definition). entry ds i) stored.held

    done : (i : ℕ) → i < k + 1 → i < length (definitions_in old) → Dec (i ≡ k) → entry (definitions_in next) i ≡ f i (entry (definitions_in old) i)
    done i h l (yes same) =
        held i ∙ ap (entry (set (definitions_in new) k d)) same
        ∙ get_or-set_same (definitions_in new) k d absent (omega (arith, s.counted)) ∙ is
        ∙ ap (λ (x : ℕ). f x (entry (definitions_in old) x)) (sym same)
    done i h l (no other) = held i ∙ get_or-set_other (definitions_in new) k i d absent other ∙ s.done i (omega arith) l

-- all are changed
pub filling_end : (f : ℕ → Definition → Definition) (old : List ℕ) (k : ℕ) (new : List ℕ) → Filling f old k new → length (definitions_in old) ≤ k
    → definitions_in new ≡ changed f (definitions_in old)
filling_end f old k new s all =
    ext_get_or absent (definitions_in new) (changed f (definitions_in old)) (s.counted ∙ sym (changed_counted f (definitions_in old)))
    (λ i h.
    s.done i (omega (arith, s.counted)) (omega (arith, s.counted))
    ∙ sym (changed_entry f (definitions_in old) i (omega (arith, s.counted))))

-- what a stage leaves as it was
pub column_kept : {B : Type 0} (g : Definition → B) (f : ℕ → Definition → Definition) → ((k : ℕ) (d : Definition) → g (f k d) ≡ g d)
    → (ds : List Definition) (k : ℕ) → g (entry (changed f ds) k) ≡ g (entry ds k)
column_kept g f kept ds k = go (dec_lt k (length ds))
  where
    go : Dec (k < length ds) → g (entry (changed f ds) k) ≡ g (entry ds k)
    go (yes h) = ap g (changed_entry f ds k h) ∙ kept k (entry ds k)
    go (no h) =
        ap g (get_or-eq_default (changed f ds) absent (omega (arith, changed_counted f ds)))
        ∙ sym (ap g (get_or-eq_default ds absent (omega arith)))
