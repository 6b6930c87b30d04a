-- The clauses, test by test, and the first of them by the two parts.
-- Assumes nothing.
use mathlib.Core.Path.{◌≡◌, refl, sym, ap, ◌∙◌}
use mathlib.Core.Bool.{Bool, true, false, not, ◌&&◌}
use mathlib.Core.List.{List}
use Prim.Native.Nat.{ℕ, ◌+◌, ◌-◌, ◌≤◌, ◌<◌}
use native.Mathlib.Omega.{arith}
use lib.Dec.{eqb}
use lib.ListN.{length, get_or, set, length-set}
use borrow.Author.Tests.{eq-eqb, ne_eqb}
use Rattle.module_table.specs.Definition.{entry}
use Rattle.module_table.specs.Module.{most_definitions, oid_in}
use Rattle.module_table.specs.declared.Definition.{Definition}
use Rattle.object_tree.specs.Words.{is_table, is_row, numbered}
use Rattle.index.specs.Choice.{when◌then◌else◌}
use Rattle.sequence_list.specs.Named.{type_of, lists, repeats, names_stranger}
use Rattle.sequence_list.specs.Held.{places, parent_named, verdict_of, VerdictTable, ListedTable}
use Rattle.sequence_list.proofs.Verdicts.{strange_by_verdict, repeats_by_verdict}
use Rattle.index.proofs.Collected.{filled_more}
use Rattle.index.proofs.Search.{true_false}
use Rattle.clause_table.specs.Clause.{ends_in_one, is_row_in, rowless_table, stray_row, repeating_row, misnaming_row, unlisted_column, unfounded_augments}
use Rattle.clause_table.specs.Held.{index_clause, row_clause, list_clause, name_clause, ClauseTable}
use Rattle.sequence_list.proofs.Marking.{type_few}

-- ---- a row in a table

module _ (numbers : List ℕ) (parent d : Definition) where
  pub no_table : is_table parent ≡ false → false ≡ is_row_in numbers parent d
  unfolding is_row_in
  no_table e = rw e

  pub other_type : is_table parent ≡ true → (type_of parent ≡ type_of d → ⊥) → false ≡ is_row_in numbers parent d
  unfolding is_row_in
  other_type e other = rw (e, ne_eqb (type_of parent) (type_of d) other)

  pub same_type : is_table parent ≡ true → type_of parent ≡ type_of d → ends_in_one (oid_in numbers d) ≡ is_row_in numbers parent d
  unfolding is_row_in
  same_type e same = rw (e, eq-eqb (type_of parent) (type_of d) same)

-- ---- the clauses on rows

module _ (ds : List Definition) (numbers : List ℕ) (k : ℕ) where
  pub row_clause_1 : rowless_table ds numbers k ≡ true → 1 ≡ row_clause ds numbers k
  unfolding row_clause
  row_clause_1 e = rw e

  pub row_clause_2 : rowless_table ds numbers k ≡ false → stray_row ds numbers k ≡ true → 2 ≡ row_clause ds numbers k
  unfolding row_clause
  row_clause_2 e f = rw (e, f)

  pub row_clause_rest : rowless_table ds numbers k ≡ false → stray_row ds numbers k ≡ false → index_clause (entry ds k) ≡ row_clause ds numbers k
  unfolding row_clause index_clause
  row_clause_rest e f = rw (e, f)

-- ---- the clauses on names

-- the definition whose number is one more than its index
pub numbered_own : (ds : List Definition) (k : ℕ) → numbered ds (k + 1) ≡ entry ds k
numbered_own ds k =
    let one : k + 1 - 1 ≡ k = omega arith in
    rw (ne_eqb (k + 1) 0 (λ e. omega arith), one)

-- the lists by what is noted of them
module _ (ds : List Definition) (values : List ℕ) (verdicts parents : List ℕ) (t : VerdictTable ds values verdicts parents) (k sequence : ℕ) (is : sequence ≡ type_of (entry ds k)) where
  clause_by : Bool → Bool → ℕ
  clause_by twice strange = when twice then 5 else when strange then 6 else 0

  noted : (twice : Bool) → repeats ds values (type_of (entry ds k)) ≡ twice
      → list_clause (verdict_of ds values (type_of (entry ds k))) (parent_named ds values (type_of (entry ds k))) (k + 1)
      ≡ (when twice then 5 else when names_stranger ds values (type_of (entry ds k)) (k + 1) then 6 else 0)
  unfolding list_clause
  noted true e = rw (repeats_by_verdict ds values (type_of (entry ds k)) ∙ e)
  noted false e = rw (repeats_by_verdict ds values (type_of (entry ds k)) ∙ e, strange_by_verdict ds values (type_of (entry ds k)) e (k + 1))

  pub list_noted : (clause : ℕ) → clause ≡ list_clause (get_or verdicts sequence 0) (get_or parents sequence 0) (k + 1)
      → clause ≡ (when repeats ds values (type_of (entry ds k)) then 5 else when names_stranger ds values (type_of (entry ds k)) (k + 1) then 6 else 0)
  list_noted clause e =
      let few : sequence < places = omega (arith, is, type_few (entry ds k)) in
      e ∙ ap (λ (v : ℕ). list_clause v (get_or parents sequence 0) (k + 1)) (t.verdict sequence few ∙ ap (verdict_of ds values) is)
      ∙ ap (λ (p : ℕ). list_clause (verdict_of ds values (type_of (entry ds k))) p (k + 1)) (t.parent sequence few ∙ ap (parent_named ds values) is)
      ∙ noted (repeats ds values (type_of (entry ds k))) refl

module _ (ds : List Definition) (values : List ℕ) (k clause : ℕ) (is : clause ≡ (when repeats ds values (type_of (entry ds k)) then 5 else when names_stranger ds values (type_of (entry ds k)) (k + 1) then 6 else 0)) where
  -- the rest, where the list is kept
  abbrev Rest : ℕ
  Rest = when unlisted_column ds values k then 7 else when unfounded_augments ds values (entry ds k) then 8 else 0

  by_list : (row twice strange : Bool) (rest : ℕ) → ((row && not (eqb (when twice then 5 else when strange then 6 else 0) 0)) ≡ true → (when twice then 5 else when strange then 6 else 0) ≡ (when row && twice then 5 else when row && strange then 6 else rest))
      × ((row && not (eqb (when twice then 5 else when strange then 6 else 0) 0)) ≡ false → rest ≡ (when row && twice then 5 else when row && strange then 6 else rest))
  by_list true true strange rest = (λ e. refl, λ e. absurd (true_false refl e))
  by_list true false true rest = (λ e. refl, λ e. absurd (true_false refl e))
  by_list true false false rest = (λ e. absurd (true_false e refl), λ e. refl)
  by_list false twice strange rest = (λ e. absurd (true_false e refl), λ e. refl)

  pub name_clause_list : (is_row (entry ds k) && not (eqb clause 0)) ≡ true → clause ≡ name_clause ds values k
  unfolding name_clause repeating_row misnaming_row
  name_clause_list e =
      is ∙ (by_list (is_row (entry ds k)) (repeats ds values (type_of (entry ds k))) (names_stranger ds values (type_of (entry ds k)) (k + 1)) Rest).0
      (ap (λ (x : ℕ). is_row (entry ds k) && not (eqb x 0)) (sym is) ∙ e)

  rest_is : (is_row (entry ds k) && not (eqb clause 0)) ≡ false → Rest ≡ name_clause ds values k
  unfolding name_clause repeating_row misnaming_row
  rest_is e =
      (by_list (is_row (entry ds k)) (repeats ds values (type_of (entry ds k))) (names_stranger ds values (type_of (entry ds k)) (k + 1)) Rest).1
      (ap (λ (x : ℕ). is_row (entry ds k) && not (eqb x 0)) (sym is) ∙ e)

  module _ (kept : (is_row (entry ds k) && not (eqb clause 0)) ≡ false) where
    pub name_clause_7 : unlisted_column ds values k ≡ true → 7 ≡ name_clause ds values k
    name_clause_7 e = (rw e) ∙ rest_is kept

    pub name_clause_8 : unlisted_column ds values k ≡ false → unfounded_augments ds values (entry ds k) ≡ true → 8 ≡ name_clause ds values k
    name_clause_8 e f = (rw (e, f)) ∙ rest_is kept

    pub name_clause_0 : unlisted_column ds values k ≡ false → unfounded_augments ds values (entry ds k) ≡ false → 0 ≡ name_clause ds values k
    name_clause_0 e f = (rw (e, f)) ∙ rest_is kept

-- a column that is listed, by its mark
pub unlisted_marked : (ds : List Definition) (values listed : List ℕ) → ListedTable ds values listed → (k : ℕ) → k + 1 < places
    → (is_row (numbered ds (entry ds k).parent) && not (eqb (get_or listed (k + 1) 0) 1)) ≡ unlisted_column ds values k
unfolding unlisted_column
unlisted_marked ds values listed t k h =
    ap (λ (b : Bool). is_row (numbered ds (entry ds k).parent) && not b)
    (t.entry (k + 1) h ∙ ap (λ (d : Definition). lists ds values (type_of (numbered ds d.parent)) (k + 1)) (numbered_own ds k))

-- ---- an array of clauses, one more at a time

pub clauses_none : (clause : ℕ → ℕ) (clauses : List ℕ) → length clauses ≡ most_definitions → ClauseTable clause 0 clauses
clauses_none clause clauses long = record { long = long; entry = λ k h. absurd (omega arith) }

pub clauses_more : (clause : ℕ → ℕ) (k : ℕ) (clauses : List ℕ) → ClauseTable clause k clauses → k < most_definitions → (v : ℕ) → v ≡ clause k → ClauseTable clause (k + 1) (set clauses k v)
clauses_more clause k clauses t h v e = record {
  long = length-set clauses k v ∙ t.long;
  entry = filled_more (λ (j x : ℕ). x ≡ clause j) clauses k v t.entry e (omega (arith, t.long));
}

pub clauses_all : (clause : ℕ → ℕ) (k n : ℕ) (clauses : List ℕ) → ClauseTable clause k clauses → n ≤ k → ClauseTable clause n clauses
clauses_all clause k n clauses t h = record { long = t.long; entry = λ j l. t.entry j (omega arith) }
