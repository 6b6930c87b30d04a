-- What the tree of a module says: its definitions with their fields, its imports, and the uses of names.
-- Assumes nothing.
use Rattle.std.specs.Prelude.{Bool, cond, not, List, [], ◌∷◌, ◌++◌, map, ℕ, suc, ◌+◌, eqb, ltb, length, get_or, drop}
use Rattle.grammar.specs.Rule.{Tree}
use Rattle.grammar.specs.Grammar.{smi_module}
use Rattle.definition.specs.declared.Span.{Span}
use Rattle.definition.specs.declared.Fields.{Fields}
use Rattle.definition.specs.Fields.{span, nowhere}
use Rattle.module_table.specs.declared.Definition.{Definition}
use Rattle.outline.specs.Outline.{outlined}
use Rattle.name_kind.specs.declared.need.Need.{Need}
use Rattle.module_tree.specs.Marked.{Marked, unmarked, marks, size, parts}
use Rattle.module_tree.specs.Grammar.{definition, used, status, access, syntax, index, augments, default, objects, columns, oid, own_number, group, import, symbol, source, need_of, module_tree}

-- how many entries at the start of a list pass the test
abbrev pub leading : (ℕ → Bool) → List ℕ → ℕ
leading test [] = 0
leading test (v ∷ vs) = cond (test v) (suc (leading test vs)) 0

-- a mark is none
abbrev pub is_none : ℕ → Bool
is_none v = eqb v 0

-- the first token that has a mark, counted from 0; how many tokens there are where none has
abbrev pub first_marked : List ℕ → ℕ
first_marked vs = leading is_none vs

-- its mark; 0 where none has one
abbrev pub first_mark : List ℕ → ℕ
first_mark vs = get_or vs (first_marked vs) 0

-- whether some token has a mark
abbrev pub some_marked : List ℕ → Bool
some_marked vs = ltb (first_marked vs) (length vs)

-- the tokens that have a mark, of tokens from d on: from the first of them up to one that has none; none, at the end, where none has
abbrev pub marked_span : ℕ → List ℕ → Span
marked_span d vs =
    cond (some_marked vs)
    (span (d + first_marked vs) (d + first_marked vs + leading (λ (v : ℕ). not (is_none v)) (drop (first_marked vs) vs)))
    (nowhere (d + length vs))

-- the tokens that have this mark, of tokens from d on
abbrev pub places : (v d : ℕ) → List ℕ → List ℕ
places v d [] = []
places v d (w ∷ ws) = cond (eqb w v) (d ∷ places v (suc d) ws) (places v (suc d) ws)

-- the tokens that have a mark, each with its mark, of tokens from d on
abbrev pub numbered : ℕ → List ℕ → List (ℕ × ℕ)
numbered d [] = []
numbered d (v ∷ vs) = cond (is_none v) (numbered (suc d) vs) ((d, v) ∷ numbered (suc d) vs)

-- the fields of a definition of this kind whose first token is d
abbrev pub fields_of_part : ℕ → (m : Marked) → ℕ → Tree (unmarked m) → Fields
fields_of_part kind m d t = record {
  kind = kind;
  status = first_mark (marks status m t);
  access = first_mark (marks access m t);
  syntax = marked_span d (marks syntax m t);
  index = marked_span d (marks index m t);
  augments = marked_span d (marks augments m t);
  has_default = some_marked (marks default m t);
  objects = marked_span d (marks objects m t);
  columns = marked_span d (marks columns m t);
  oid = marked_span d (marks oid m t);
}

-- the definition: its name is its first token
abbrev pub definition_of_part : ℕ → (m : Marked) → ℕ → Tree (unmarked m) → Definition
definition_of_part kind m d t = outlined d (fields_of_part kind m d t)

-- its end, and its OID's own numbers
abbrev pub end_of_part : ℕ → (m : Marked) → ℕ → Tree (unmarked m) → ℕ
end_of_part kind m d t = d + size m t

abbrev pub numbers_of_part : ℕ → (m : Marked) → ℕ → Tree (unmarked m) → List ℕ
numbers_of_part kind m d t = places own_number d (marks oid m t)

-- the imports of a group, each symbol with the module that the group comes from
abbrev pub imports_of_part : ℕ → (m : Marked) → ℕ → Tree (unmarked m) → List (ℕ × ℕ)
imports_of_part number m d t =
    map (λ (i : ℕ). (i, d + leading (λ (v : ℕ). not (eqb v source)) (marks import m t))) (places symbol d (marks import m t))

-- all lists in a row
abbrev pub in_a_row : {X : Type 0} → List (List X) → List X
in_a_row [] = []
in_a_row (l ∷ ls) = l ++ in_a_row ls

-- the definitions of a module, in text order
unfoldable pub outline_of_tree : Tree smi_module → List Definition
unfolding smi_module module_tree
outline_of_tree t = parts definition definition_of_part module_tree 0 t

-- where each of them ends
unfoldable pub ends_of_tree : Tree smi_module → List ℕ
unfolding smi_module module_tree
ends_of_tree t = parts definition end_of_part module_tree 0 t

-- the OID's own numbers of each, by their tokens
unfoldable pub numbers_of_tree : Tree smi_module → List (List ℕ)
unfolding smi_module module_tree
numbers_of_tree t = parts definition numbers_of_part module_tree 0 t

-- the imports: each symbol's token, with the token of the module that it comes from
unfoldable pub imports_of_tree : Tree smi_module → List (ℕ × ℕ)
unfolding smi_module module_tree
imports_of_tree t = in_a_row (parts group imports_of_part module_tree 0 t)

-- the uses: each token where the grammar has a name that is used, with what it is used as
unfoldable pub uses_of_tree : Tree smi_module → List (ℕ × Need)
unfolding smi_module module_tree
uses_of_tree t = map (λ (p : ℕ × ℕ). (p.0, need_of p.1)) (numbered 0 (marks used module_tree t))
