-- Refusal 15, a rule over the definitions in text order, of a module with OIDs: `ds` are its definitions, and `numbers` those of all
-- OIDs.
-- Assumes nothing.
use Rattle.std.specs.Prelude.{Bool, ◌&&◌, ◌||◌, List, ℕ, eqb}
use Rattle.index.specs.First.{first, any}
use Rattle.chain.specs.Key.{list_key}
use Rattle.rule.specs.Rule.{Rule}
use Rattle.lexicon.specs.Word.{same}
use Rattle.definition.specs.Landmark.{identity, object_identity, object, notification}
use Rattle.module_table.specs.Definition.{entry}
use Rattle.module_table.specs.Module.{oid_in, name_at, rule_of_definitions}
use Rattle.module_table.specs.declared.Definition.{Definition}

-- a definition that holds its OID: kinds 1, 3, 4 and 7
abbrev pub is_holder : Definition → Bool
is_holder d =
    eqb d.kind identity || (eqb d.kind object_identity || (eqb d.kind object || eqb d.kind notification))

-- definition j holds the OID of definition k
abbrev pub holds_oid : List Definition → List ℕ → ℕ → ℕ → Bool
holds_oid ds numbers k j = is_holder (entry ds j) && same (oid_in numbers (entry ds j)) (oid_in numbers (entry ds k))

-- what definition k stands against: the first that holds its OID; k, where none does before it
abbrev pub earlier_holder : List Definition → List ℕ → ℕ → ℕ
earlier_holder ds numbers k = first (holds_oid ds numbers k) 0 k

-- 15: an OID already held by an earlier definition, both of these kinds
unfoldable pub held_twice : List Definition → List ℕ → Rule
held_twice ds numbers =
    rule_of_definitions 15 ds
    (λ k. is_holder (entry ds k) && any (holds_oid ds numbers k) 0 k)
    (λ k. 0)
    (λ k. name_at ds (earlier_holder ds numbers k))

-- the key of the OID of definition j, by which definitions are chained
abbrev pub key_at : List Definition → List ℕ → ℕ → ℕ
key_at ds numbers j = list_key (oid_in numbers (entry ds j))
