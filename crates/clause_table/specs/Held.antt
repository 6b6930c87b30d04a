-- The arrays that refusal 20 is told by: the rows of each SEQUENCE type, and the clauses of each definition in two parts.
-- Assumes nothing.
use Rattle.std.specs.Prelude.{◌≡◌, not, ◌&&◌, ◌||◌, List, ℕ, ◌<◌, eqb, length, get_or}
use Rattle.index.specs.First.{hits}
use Rattle.module_table.specs.Definition.{entry}
use Rattle.module_table.specs.Module.{most_definitions}
use Rattle.module_table.specs.declared.Definition.{Definition}
use Rattle.index.specs.Choice.{when◌then◌else◌}
use Rattle.sequence_list.specs.Held.{places}
use Rattle.clause_table.specs.Clause.{is_of, rowless_table, stray_row, unindexed_row, indexed_object, repeating_row, misnaming_row, unlisted_column, unfounded_augments}

-- how many rows each SEQUENCE type has among the definitions from k on, and the first of them
pub record RowsFrom (ds : List Definition) (k : ℕ) (counts firsts : List ℕ) : Type 0 where
  pub counts_long : length counts ≡ places
  pub firsts_long : length firsts ≡ places
  pub count : (type : ℕ) → type < places → get_or counts type 0 ≡ length (hits (is_of ds 14 type) k (length ds))
  pub first : (type : ℕ) → type < places → get_or firsts type 0 ≡ get_or (hits (is_of ds 14 type) k (length ds)) 0 0

-- the first clause on INDEX and AUGMENTS
unfoldable pub index_clause : Definition → ℕ
index_clause d =
    when unindexed_row d then 3 else
    when indexed_object d then 4 else
    0

-- the first clause on tables, rows and their INDEX
unfoldable pub row_clause : List Definition → List ℕ → ℕ → ℕ
row_clause ds numbers k =
    when rowless_table ds numbers k then 1 else
    when stray_row ds numbers k then 2 else
    when unindexed_row (entry ds k) then 3 else
    when indexed_object (entry ds k) then 4 else
    0

-- the clause on the names of the SEQUENCE type of a row of this number, by the verdict on its list and the parent noted of it
unfoldable pub list_clause : ℕ → ℕ → ℕ → ℕ
list_clause verdict parent number =
    when eqb verdict 3 then 5 else
    when eqb verdict 2 || (eqb verdict 1 && not (eqb parent number)) then 6 else
    0

-- the first clause on the names of a SEQUENCE type or of AUGMENTS
unfoldable pub name_clause : List Definition → List ℕ → ℕ → ℕ
name_clause ds values k =
    when repeating_row ds values k then 5 else
    when misnaming_row ds values k then 6 else
    when unlisted_column ds values k then 7 else
    when unfounded_augments ds values (entry ds k) then 8 else
    0

-- an array has the clause of each of the first n definitions
pub record ClauseTable (clause : ℕ → ℕ) (n : ℕ) (clauses : List ℕ) : Type 0 where
  pub long : length clauses ≡ most_definitions
  pub entry : (k : ℕ) → k < n → get_or clauses k 0 ≡ clause k
