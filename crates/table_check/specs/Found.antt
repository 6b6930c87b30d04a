-- How refusal 20 is told by its two parts, and what there is to say of a breach.
-- Assumes nothing.
use Rattle.std.specs.Prelude.{not, List, ℕ, eqb}
use Rattle.rule.specs.declared.Finding.{Finding}
use Rattle.module_table.specs.Definition.{entry}
use Rattle.module_table.specs.declared.Definition.{Definition}
use Rattle.object_tree.specs.Words.{is_object}
use Rattle.index.specs.Choice.{when◌then◌else◌}
use Rattle.table_check.specs.Refusal.{other_token}

-- the first of an object's clauses, by the first of each part; 0 for what is no object
abbrev pub picked : Definition → ℕ → ℕ → ℕ
picked d row name = when not (is_object d) then 0 else when eqb row 0 then name else row

-- what there is to say of definition k, at fault by this clause
abbrev pub found : List Definition → List ℕ → ℕ → ℕ → Finding
found ds values k clause = record {
  number = 20;
  clause = clause;
  token = (entry ds k).name;
  other = record { 0 = other_token ds values k clause };
}
