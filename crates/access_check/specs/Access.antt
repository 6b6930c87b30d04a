-- Refusal 21, "Rule 21" of document 01: a line for each clause, which says that an object is at fault. `ds` are the definitions, and
-- `values` says what the name at a token leads to.
-- Assumes nothing.
use Rattle.std.specs.Prelude.{Bool, not, ◌&&◌, ◌||◌, List, ℕ, eqb, ltb}
use Rattle.index.specs.First.{first, any}
use Rattle.rule.specs.Rule.{Rule}
use Rattle.definition.specs.declared.Span.{Span}
use Rattle.module_table.specs.Definition.{entry}
use Rattle.module_table.specs.Module.{name_at, rule_of_definitions}
use Rattle.module_table.specs.declared.Definition.{Definition}
use Rattle.object_tree.specs.Words.{counter32, counter64, not_accessible, accessible_for_notify, read_only, read_write, read_create, is_object, is_table, is_row, numbered}
use Rattle.index.specs.Choice.{when◌then◌else◌}
use Rattle.sequence_list.specs.Named.{type_of, columns_of, named_at}

-- token i names an object of this access
unfoldable pub has_access : List Definition → List ℕ → ℕ → ℕ → Bool
has_access ds values access i = eqb (numbered ds (named_at ds values i)).access access

-- the first token of a list that names an object of this access; the end of the list where none does
abbrev pub first_with : List Definition → List ℕ → ℕ → Span → ℕ
first_with ds values access s = first (has_access ds values access) s.from s.to

-- the SEQUENCE type of a number names a read-create object. Where refusal 20 is kept, what the SEQUENCE type of a row names are its columns
unfoldable pub creates : List Definition → List ℕ → ℕ → Bool
creates ds values type = any (has_access ds values read_create) (columns_of ds type).from (columns_of ds type).to

-- a read-write column: an object whose parent is a row
abbrev pub is_written_column : List Definition → Definition → Bool
is_written_column ds d = (is_object d && eqb d.access read_write) && is_row (numbered ds d.parent)

-- 1: a read-write column in a row that has a read-create one
unfoldable pub clashes : List Definition → List ℕ → ℕ → Bool
clashes ds values k = is_written_column ds (entry ds k) && creates ds values (type_of (numbered ds (entry ds k).parent))

-- 2: a table or a row that isn't not-accessible
abbrev pub open_table : Definition → Bool
open_table d = (is_table d || is_row d) && not (eqb d.access not_accessible)

-- 3: read-create in what is no column
abbrev pub created_alone : List Definition → Definition → Bool
created_alone ds d = eqb d.access read_create && not (is_row (numbered ds d.parent))

-- the class of a counter
abbrev pub is_counter : Definition → Bool
is_counter d = eqb d.class counter32 || eqb d.class counter64

-- the access that a counter may have
abbrev pub is_counter_access : Definition → Bool
is_counter_access d = eqb d.access read_only || eqb d.access accessible_for_notify

-- 4: a counter that is neither read-only nor accessible-for-notify, or has DEFVAL
abbrev pub unfit_counter : Definition → Bool
unfit_counter d = is_counter d && (not (is_counter_access d) || eqb d.default 1)

-- the number of the first clause that puts definition k at fault, which is an object; 0 where none does
unfoldable pub access_clause : List Definition → List ℕ → ℕ → ℕ
access_clause ds values k =
    when not (is_object (entry ds k)) then 0 else
    when clashes ds values k then 1 else
    when open_table (entry ds k) then 2 else
    when created_alone ds (entry ds k) then 3 else
    when unfit_counter (entry ds k) then 4 else
    0

-- the list of the SEQUENCE type of the row of definition k
abbrev pub row_list : List Definition → ℕ → Span
row_list ds k = columns_of ds (type_of (numbered ds (entry ds k).parent))

-- the token that definition k stands against by a clause: of a clash, the name of the first read-create column that is listed; else its
-- own name
unfoldable pub access_other : List Definition → List ℕ → ℕ → ℕ → ℕ
access_other ds values k clause =
    when eqb clause 1 then (numbered ds (named_at ds values (first_with ds values read_create (row_list ds k)))).name.0 else
    name_at ds k

-- 21: access rules
unfoldable pub access_broken : List Definition → List ℕ → Rule
access_broken ds values =
    rule_of_definitions 21 ds (λ k. ltb 0 (access_clause ds values k)) (access_clause ds values)
    (λ k. access_other ds values k (access_clause ds values k))
