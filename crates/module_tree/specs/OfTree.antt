-- What the landmarks among the classes of a module's tokens, `cs`, show is what its tree says.
-- Assumes nothing.
use Rattle.std.specs.Prelude.{Bool, true, false, List, map, ◌≡◌, ℕ, ◌<◌, length}
use Rattle.grammar.specs.Rule.{Tree}
use Rattle.grammar.specs.Grammar.{smi_module}
use Rattle.grammar.specs.Derivation.{Derivation, tokens_of, tree_of}
use Rattle.token.specs.Token.{class_of_token}
use Rattle.index.specs.First.{hits}
use Rattle.definition.specs.Landmark.{has_oid, definition_end}
use Rattle.definition.specs.Members.{oid_numbers}
use Rattle.module_table.specs.declared.Definition.{Definition}
use Rattle.module_table.specs.Definition.{entry}
use Rattle.outline.specs.Outline.{outline}
use Rattle.scope.specs.Import.{imports_end, is_import, source}
use Rattle.name_kind.specs.declared.need.Need.{Need}
use Rattle.name_kind.specs.declared.need.Need.TheVariants.{NoName, Macro, TypeName, ObjectType, Head, Object, Sequence}
use Rattle.name_kind.specs.Need.{need_at}
use Rattle.module_tree.specs.Module.{outline_of_tree, ends_of_tree, numbers_of_tree, imports_of_tree, uses_of_tree}

-- a name is needed
abbrev pub is_needed : Need → Bool
is_needed NoName = false
is_needed Macro = true
is_needed TypeName = true
is_needed ObjectType = true
is_needed Head = true
is_needed Object = true
is_needed Sequence = true

-- the imported symbols in text order, each with the module that it is imported from
abbrev pub imports_in : List ℕ → List (ℕ × ℕ)
imports_in cs = map (λ (i : ℕ). (i, source cs i)) (hits (is_import cs) 0 (length cs))

-- the tokens after the imports where a name is needed, each with what it is needed as
abbrev pub needs_in : List ℕ → List (ℕ × Need)
needs_in cs = map (λ (i : ℕ). (i, need_at cs i)) (hits (λ (i : ℕ). is_needed (need_at cs i)) (imports_end cs) (length cs))

-- each definition of a kind with an OID has a number of its own there: a part stands behind every head
abbrev pub EachNumbered : List ℕ → Type 0
EachNumbered cs =
    (k : ℕ) → k < length (outline cs) → has_oid (entry (outline cs) k).kind ≡ true
    → 0 < length (oid_numbers cs (entry (outline cs) k).oid)

pub record OfTree (cs : List ℕ) (t : Tree smi_module) : Type 0 where
  -- the definitions, each with its name, its kind and its fields
  pub definitions : outline cs ≡ outline_of_tree t
  -- where each ends
  pub ends : map (λ (d : Definition). definition_end cs d.name.0) (outline cs) ≡ ends_of_tree t
  -- the numbers of its OID
  pub numbers : map (λ (d : Definition). oid_numbers cs d.oid) (outline cs) ≡ numbers_of_tree t
  pub each_numbered : EachNumbered cs
  -- the imports
  pub imports : imports_in cs ≡ imports_of_tree t
  -- the uses: a token has a need where the grammar has a name of that sort, and nowhere else
  pub needs : needs_in cs ≡ uses_of_tree t

-- the same of a derivation of tokens, its classes and its tree
abbrev pub OfDerivation : Derivation class_of_token smi_module → Type 0
OfDerivation d = OfTree (map class_of_token (tokens_of class_of_token smi_module d)) (tree_of class_of_token smi_module d)
