-- Refusal 20, "Rule 20" of document 01: the first clause that puts an object at fault, and the token that it stands against.
-- Assumes nothing.
use Rattle.std.specs.Prelude.{not, List, ℕ, ◌+◌, ◌-◌, eqb, ltb, get_or}
use Rattle.rule.specs.Rule.{Rule}
use Rattle.module_table.specs.Definition.{entry}
use Rattle.module_table.specs.Module.{name_at, rule_of_definitions}
use Rattle.module_table.specs.declared.Definition.{Definition}
use Rattle.object_tree.specs.Words.{is_object, number_at}
use Rattle.index.specs.Choice.{when◌then◌else◌}
use Rattle.sequence_list.specs.Named.{type_of, first_repeated, first_stranger}
use Rattle.clause_table.specs.Clause.{rows_of, tables_of, rowless_table, stray_row, unindexed_row, indexed_object, repeating_row, misnaming_row, unlisted_column, unfounded_augments}

-- the number of the first clause that puts definition k at fault, which is an object; 0 where none does
unfoldable pub clause_of : List Definition → List ℕ → List ℕ → ℕ → ℕ
clause_of ds values numbers k =
    when not (is_object (entry ds k)) then 0 else
    when rowless_table ds numbers k then 1 else
    when stray_row ds numbers k then 2 else
    when unindexed_row (entry ds k) then 3 else
    when indexed_object (entry ds k) then 4 else
    when repeating_row ds values k then 5 else
    when misnaming_row ds values k then 6 else
    when unlisted_column ds values k then 7 else
    when unfounded_augments ds values (entry ds k) then 8 else
    0

-- the definition of a number, counted from 1; k where it is 0
abbrev pub definition_or : ℕ → ℕ → ℕ
definition_or k number = when eqb number 0 then k else number - 1

-- the SEQUENCE type of definition k, else itself
unfoldable pub type_against : List Definition → ℕ → ℕ
type_against ds k = definition_or k (type_of (entry ds k))

-- the second row of its SEQUENCE type, else the first, else the type, else itself
unfoldable pub row_against : List Definition → ℕ → ℕ
row_against ds k =
    get_or (rows_of ds (type_of (entry ds k))) 1 (get_or (rows_of ds (type_of (entry ds k))) 0 (type_against ds k))

-- the first table of its SEQUENCE type, else the type, else itself
unfoldable pub table_against : List Definition → ℕ → ℕ
table_against ds k = get_or (tables_of ds (type_of (entry ds k))) 0 (type_against ds k)

-- the definition that definition k stands against by a clause; itself, where the clause is about one thing alone
unfoldable pub other_by : List Definition → List ℕ → ℕ → ℕ → ℕ
other_by ds values k clause =
    when eqb clause 1 then row_against ds k else
    when eqb clause 2 then table_against ds k else
    when eqb clause 7 then definition_or k (entry ds k).parent else
    when eqb clause 8 then definition_or k (number_at values (entry ds k).augments.from) else
    k

-- the token that it stands against: of a row whose SEQUENCE type names an object twice, the first name of the list that one before it
-- equals; of one whose type names an object that is not at the row's OID plus one number, the first such name; else a definition's name
unfoldable pub other_token : List Definition → List ℕ → ℕ → ℕ → ℕ
other_token ds values k clause =
    when eqb clause 5 then first_repeated ds values (type_of (entry ds k)) else
    when eqb clause 6 then first_stranger ds values (type_of (entry ds k)) (k + 1) else
    name_at ds (other_by ds values k clause)

-- 20: table rules
unfoldable pub table_broken : List Definition → List ℕ → List ℕ → Rule
table_broken ds values numbers =
    rule_of_definitions 20 ds
    (λ k. ltb 0 (clause_of ds values numbers k))
    (clause_of ds values numbers)
    (λ k. other_token ds values k (clause_of ds values numbers k))
