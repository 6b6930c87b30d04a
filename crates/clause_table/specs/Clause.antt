-- The clauses of "Rule 20" of document 01, a line for each: that definition k is at fault by it. `ds` are the definitions, `values` says
-- what the name at a token leads to, and `numbers` has the OIDs.
-- Assumes nothing.
use Rattle.std.specs.Prelude.{Bool, not, ◌&&◌, List, ℕ, ◌+◌, ◌-◌, eqb, length, get_or}
use Rattle.index.specs.First.{hits}
use Rattle.module_table.specs.Definition.{entry}
use Rattle.module_table.specs.Module.{oid_in}
use Rattle.module_table.specs.declared.Definition.{Definition}
use Rattle.object_tree.specs.Words.{table, row, is_object, is_table, is_row, is_given, is_indexed, numbered, number_at}
use Rattle.sequence_list.specs.Named.{type_of, lists, repeats, names_stranger}

-- definition r is an object of this class whose SEQUENCE type has this number
unfoldable pub is_of : List Definition → ℕ → ℕ → ℕ → Bool
is_of ds class type r =
    (is_object (entry ds r) && eqb (entry ds r).class class) && eqb (type_of (entry ds r)) type

-- the objects of a class that have this SEQUENCE type, in text order
abbrev pub those_of : List Definition → ℕ → ℕ → List ℕ
those_of ds class type = hits (is_of ds class type) 0 (length ds)

-- its rows
abbrev pub rows_of : List Definition → ℕ → List ℕ
rows_of ds type = those_of ds row type

-- its tables
abbrev pub tables_of : List Definition → ℕ → List ℕ
tables_of ds type = those_of ds table type

-- a SEQUENCE type has exactly one row
abbrev pub has_one_row : List Definition → ℕ → Bool
has_one_row ds type = eqb (length (rows_of ds type)) 1

-- the last number of an OID is 1
abbrev pub ends_in_one : List ℕ → Bool
ends_in_one oid = eqb (get_or oid (length oid - 1) 0) 1

-- an object is at the OID, followed by 1, of the object of this number: that one is its parent
unfoldable pub is_first_under : List ℕ → ℕ → Definition → Bool
is_first_under numbers number d = eqb d.parent number && ends_in_one (oid_in numbers d)

-- the SEQUENCE type of table k has exactly one row, at the table's OID followed by 1
abbrev pub has_its_row : List Definition → List ℕ → ℕ → Bool
has_its_row ds numbers k =
    has_one_row ds (type_of (entry ds k))
    && is_first_under numbers (k + 1) (entry ds (get_or (rows_of ds (type_of (entry ds k))) 0 0))

-- 1: a table that has not
unfoldable pub rowless_table : List Definition → List ℕ → ℕ → Bool
rowless_table ds numbers k = is_table (entry ds k) && not (has_its_row ds numbers k)

-- a row is at the OID, followed by 1, of a table of its type: of its parent
unfoldable pub is_row_in : List ℕ → Definition → Definition → Bool
is_row_in numbers parent d =
    is_table parent && (eqb (type_of parent) (type_of d) && ends_in_one (oid_in numbers d))

-- 2: a row that is not
unfoldable pub stray_row : List Definition → List ℕ → ℕ → Bool
stray_row ds numbers k = is_row (entry ds k) && not (is_row_in numbers (numbered ds (entry ds k).parent) (entry ds k))

-- 3: a row with neither INDEX nor AUGMENTS
abbrev pub unindexed_row : Definition → Bool
unindexed_row d = is_row d && not (is_indexed d)

-- 4: another object with one of them
abbrev pub indexed_object : Definition → Bool
indexed_object d = not (is_row d) && is_indexed d

-- 5: a row whose SEQUENCE type names an object twice
unfoldable pub repeating_row : List Definition → List ℕ → ℕ → Bool
repeating_row ds values k = is_row (entry ds k) && repeats ds values (type_of (entry ds k))

-- 6: a row whose SEQUENCE type names an object that is not at the row's OID plus one number
unfoldable pub misnaming_row : List Definition → List ℕ → ℕ → Bool
misnaming_row ds values k = is_row (entry ds k) && names_stranger ds values (type_of (entry ds k)) (k + 1)

-- 7: an object at a row's OID plus one number that the row's SEQUENCE type doesn't name
unfoldable pub unlisted_column : List Definition → List ℕ → ℕ → Bool
unlisted_column ds values k =
    is_row (numbered ds (entry ds k).parent)
    && not (lists ds values (type_of (numbered ds (entry ds k).parent)) (k + 1))

-- a row with INDEX
abbrev pub is_index_row : Definition → Bool
is_index_row d = is_row d && is_given d.index

-- 8: AUGMENTS that doesn't name a row with INDEX; it has one name
unfoldable pub unfounded_augments : List Definition → List ℕ → Definition → Bool
unfounded_augments ds values d = is_given d.augments && not (is_index_row (numbered ds (number_at values d.augments.from)))
