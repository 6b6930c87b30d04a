-- The rows of SEQUENCE types, noted from the last definition to the first; and a table with its row.
-- Assumes nothing.
use mathlib.Core.Path.{◌≡◌, refl, sym, ap, ◌∙◌}
use mathlib.Core.Bool.{true, false}
use mathlib.Core.List.{List, [], ◌∷◌}
use Prim.Native.Nat.{ℕ, suc, ◌+◌, ◌-◌, ◌≤◌, ◌<◌}
use native.Mathlib.Decide.{ℕ_discrete}
use native.Mathlib.Omega.{arith}
use lib.Dec.{eqb}
use lib.ListN.{length, get_or, set, replicate, length-set, length-replicate, get_or-replicate}
use lib.Seq.{get_or-set_same, get_or-set_other}
use borrow.Author.Tests.{eq-eqb, ne_eqb}
use Rattle.index.specs.First.{hits}
use Rattle.index.proofs.Hits.{hits_hit, hits_miss, hits_none, hits_few}
use Rattle.module_table.specs.Definition.{entry}
use Rattle.module_table.specs.Module.{oid_in}
use Rattle.module_table.specs.declared.Definition.{Definition}
use Rattle.oid_run.specs.Run.{run}
use Rattle.oid_run.proofs.Runs.{run_length, run_number}
use Rattle.object_tree.specs.Words.{is_row}
use Rattle.sequence_list.specs.Named.{type_of}
use Rattle.sequence_list.specs.Held.{places}
use Rattle.sequence_list.proofs.Marking.{type_few}
use Rattle.clause_table.specs.Clause.{is_of, rows_of, ends_in_one, is_first_under, has_its_row}
use Rattle.clause_table.specs.Held.{RowsFrom}

-- ---- the loop that notes the rows

pub rows_start : (ds : List Definition) → RowsFrom ds (length ds) (replicate places 0) (replicate places 0)
rows_start ds = record {
  counts_long = length-replicate {A = ℕ} places 0;
  firsts_long = length-replicate {A = ℕ} places 0;
  count = λ type h. get_or-replicate {A = ℕ} places type 0 0 h ∙ sym (ap length (hits_none (is_of ds 14 type) (length ds) (length ds) (omega arith)));
  first = λ type h. get_or-replicate {A = ℕ} places type 0 0 h ∙ sym (ap (λ (l : List ℕ). get_or l 0 0) (hits_none (is_of ds 14 type) (length ds) (length ds) (omega arith)));
}

module _ (ds : List Definition) (k j : ℕ) (counts firsts : List ℕ) (m : RowsFrom ds k counts firsts) (here : k ≡ suc j) (inside : j < length ds) where
  after : (type : ℕ) → hits (is_of ds 14 type) (suc j) (length ds) ≡ hits (is_of ds 14 type) k (length ds)
  after type = ap (λ (i : ℕ). hits (is_of ds 14 type) i (length ds)) (sym here)

  miss : (type : ℕ) → is_of ds 14 type j ≡ false → hits (is_of ds 14 type) j (length ds) ≡ hits (is_of ds 14 type) k (length ds)
  miss type e = hits_miss (is_of ds 14 type) j (length ds) inside e ∙ after type

  -- no row is passed
  pub rows_pass : is_row (entry ds j) ≡ false → RowsFrom ds j counts firsts
  unfolding is_of
  rows_pass e = record {
    counts_long = m.counts_long;
    firsts_long = m.firsts_long;
    count = λ type h. m.count type h ∙ sym (ap length (miss type (rw e)));
    first = λ type h. m.first type h ∙ sym (ap (λ (l : List ℕ). get_or l 0 0) (miss type (rw e)));
  }

  -- a type has no more rows than there are definitions
  pub count_few : (type : ℕ) → type < places → get_or counts type 0 ≤ length ds - k
  count_few type h = omega (arith, m.count type h, hits_few (is_of ds 14 type) k (length ds))

  -- a row is one more of its type, and the first
  module _ (e : is_row (entry ds j) ≡ true) (number : ℕ) (is : number ≡ type_of (entry ds j)) where
    few : number < places
    few = omega (arith, is, type_few (entry ds j))

    is_own : (type : ℕ) → type ≡ number → is_of ds 14 type j ≡ true
    unfolding is_of
    is_own type same = rw e (eq-eqb (type_of (entry ds j)) type (sym (same ∙ is)))

    is_other : (type : ℕ) → (type ≡ number → ⊥) → is_of ds 14 type j ≡ false
    unfolding is_of
    is_other type other = rw e (ne_eqb (type_of (entry ds j)) type (λ q. other (sym (is ∙ q))))

    pub rows_add : RowsFrom ds j (set counts number (get_or counts number 0 + 1)) (set firsts number j)
    rows_add = record {
      counts_long = length-set counts number (get_or counts number 0 + 1) ∙ m.counts_long;
      firsts_long = length-set firsts number j ∙ m.firsts_long;
      count = λ type h. count type h (ℕ_discrete type number);
      first = λ type h. first type h (ℕ_discrete type number);
    }
      where
        count : (type : ℕ) → type < places → Dec (type ≡ number) → get_or (set counts number (get_or counts number 0 + 1)) type 0 ≡ length (hits (is_of ds 14 type) j (length ds))
        count type h (yes same) =
            let old : get_or counts type 0 ≡ length (hits (is_of ds 14 type) k (length ds)) = m.count type h in
            let more = ap length (hits_hit (is_of ds 14 type) j (length ds) inside (is_own type same) ∙ ap (λ (l : List ℕ). j ∷ l) (after type)) in
            let new : get_or (set counts number (get_or counts number 0 + 1)) type 0 ≡ get_or counts type 0 + 1 =
            ap (λ (x : ℕ). get_or (set counts number (get_or counts number 0 + 1)) x 0) same ∙ get_or-set_same counts number (get_or counts number 0 + 1) 0 (omega (arith, few, m.counts_long))
            ∙ ap (λ (x : ℕ). get_or counts x 0 + 1) (sym same) in
            omega (arith, old, more, new)
        count type h (no other) =
            get_or-set_other counts number type (get_or counts number 0 + 1) 0 other ∙ m.count type h ∙ sym (ap length (miss type (is_other type other)))

        first : (type : ℕ) → type < places → Dec (type ≡ number) → get_or (set firsts number j) type 0 ≡ get_or (hits (is_of ds 14 type) j (length ds)) 0 0
        first type h (yes same) =
            ap (λ (x : ℕ). get_or (set firsts number j) x 0) same ∙ get_or-set_same firsts number j 0 (omega (arith, few, m.firsts_long))
            ∙ sym (ap (λ (l : List ℕ). get_or l 0 0) (hits_hit (is_of ds 14 type) j (length ds) inside (is_own type same)))
        first type h (no other) =
            get_or-set_other firsts number type j 0 other ∙ m.first type h ∙ sym (ap (λ (l : List ℕ). get_or l 0 0) (miss type (is_other type other)))

-- ---- the last number of an OID

module _ (numbers : List ℕ) (from count : ℕ) (oid : List ℕ) (h : from + count ≤ length numbers) (held : run numbers from count ≡ oid) where
  long : length oid ≡ count
  long = sym (ap length held) ∙ run_length numbers from count h

  pub last_none : count ≡ 0 → false ≡ ends_in_one oid
  last_none e = go oid (long ∙ e)
    where
      go : (l : List ℕ) → length l ≡ 0 → false ≡ ends_in_one l
      go [] e = refl
      go (x ∷ l) e = absurd (omega arith)

  pub last_number : (count ≡ 0 → ⊥) → eqb (get_or numbers (from + (count - 1)) 0) 1 ≡ ends_in_one oid
  last_number some =
      let there : get_or oid (length oid - 1) 0 ≡ get_or numbers (from + (count - 1)) 0 =
      ap (λ (n : ℕ). get_or oid (n - 1) 0) long ∙ sym (ap (λ (l : List ℕ). get_or l (count - 1) 0) held) ∙ run_number numbers from count h (count - 1) (omega arith) in
      ap (λ (x : ℕ). eqb x 1) (sym there)

-- ---- a table with its row

module _ (ds : List Definition) (numbers : List ℕ) (k : ℕ) (counts firsts : List ℕ) (m : RowsFrom ds 0 counts firsts) (number : ℕ) (is : number ≡ type_of (entry ds k)) where
  sequence_few : number < places
  sequence_few = omega (arith, is, type_few (entry ds k))

  counted : get_or counts number 0 ≡ length (rows_of ds (type_of (entry ds k)))
  counted = m.count number sequence_few ∙ ap (λ (t : ℕ). length (rows_of ds t)) is

  row_is : get_or firsts number 0 ≡ get_or (rows_of ds (type_of (entry ds k))) 0 0
  row_is = m.first number sequence_few ∙ ap (λ (t : ℕ). get_or (rows_of ds t) 0 0) is

  pub not_one : (get_or counts number 0 ≡ 1 → ⊥) → false ≡ has_its_row ds numbers k
  not_one other = rw (ne_eqb (length (rows_of ds (type_of (entry ds k)))) 1 (λ e. other (counted ∙ e)))

  module _ (one : get_or counts number 0 ≡ 1) (row : Definition) (read : row ≡ entry ds (get_or firsts number 0)) where
    said : has_its_row ds numbers k ≡ is_first_under numbers (k + 1) row
    said =
        rw (eq-eqb (length (rows_of ds (type_of (entry ds k)))) 1 (sym counted ∙ one))
        (ap (λ (i : ℕ). is_first_under numbers (k + 1) (entry ds i)) (sym row_is) ∙ ap (is_first_under numbers (k + 1)) (sym read))

    pub other_parent : (row.parent ≡ k + 1 → ⊥) → false ≡ has_its_row ds numbers k
    unfolding is_first_under
    other_parent other = sym (said ∙ rw (ne_eqb row.parent (k + 1) other))

    pub own_parent : row.parent ≡ k + 1 → ends_in_one (oid_in numbers row) ≡ has_its_row ds numbers k
    unfolding is_first_under
    own_parent own = sym (said ∙ rw (eq-eqb row.parent (k + 1) own))
