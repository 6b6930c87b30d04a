-- A small module, worked: what its tree says, by the indices of its 66 tokens. A column that is an OBJECT IDENTIFIER defines nothing.
-- Assumes nothing.
use mathlib.Core.Path.{◌≡◌, refl}
use mathlib.Core.List.{[], ◌∷◌, map}
use mathlib.Core.Logic.{inl, inr}
use Rattle.grammar.specs.Rule.{Tree, last, step}
use Rattle.grammar.specs.Grammar.{lower, group, identity, def, tail, oid, smi_module}
use Rattle.definition.specs.Fields.{span}
use Rattle.module_table.specs.declared.Definition.{Definition}
use Rattle.name_kind.specs.declared.need.Need.TheVariants.{Macro, ObjectType, Head, Object}
use Rattle.module_tree.specs.Grammar.{module_tree}
use Rattle.module_tree.specs.Module.{outline_of_tree, ends_of_tree, numbers_of_tree, imports_of_tree, uses_of_tree}

abbrev name : Tree lower
name = inl tt

-- `{ name 1 }`
abbrev short_oid : Tree oid
short_oid = (tt, ((name, (inl tt, last tt)), tt))

-- `{ name label ( 1 ) 1 }`
abbrev long_oid : Tree oid
long_oid = (tt, ((name, (inr (name, (tt, (tt, tt))), step (inl tt) (last tt))), tt))

-- a , OBJECT-TYPE FROM S
abbrev imported : Tree group
imported = ((inl name, step (tt, inr (inr (inr (inr (inl tt))))) (last tt)), (tt, tt))

-- i MODULE-IDENTITY LAST-UPDATED "" ORGANIZATION "" CONTACT-INFO "" DESCRIPTION "" ::= { h 1 }
abbrev of_module : Tree identity
of_module = (name, (tt, (tt, (tt, (tt, (tt, (tt, (tt, (tt, (tt, (last tt, (tt, short_oid))))))))))))

-- E ::= SEQUENCE { b OBJECT IDENTIFIER }
abbrev of_entry : Tree def
of_entry = inr (inr (inr (inr (inr (tt, (tt, (tt, (tt, (((name, inr (inr (inl (tt, tt)))), last tt), tt)))))))))

-- p OBJECT IDENTIFIER ::= { i x ( 2 ) 3 }
abbrev of_parent : Tree def
of_parent = inl (name, (tt, (tt, (tt, long_oid))))

-- STATUS current DESCRIPTION ""
abbrev of_status : Tree tail
of_status = (tt, (inl tt, (tt, (tt, inl tt))))

-- o OBJECT-TYPE SYNTAX E MAX-ACCESS read-only STATUS current DESCRIPTION "" INDEX { b } ::= { p 1 }
abbrev of_row : Tree def
of_row =
    inr (inr (inl (
      name,
      (
        tt,
        (
          tt,
          (
            inr (inr (inl (tt, inl tt))),
            (
              inl tt,
              (
                tt,
                (
                  inr (inr (inl tt)),
                  (
                    of_status,
                    (inr (inl (tt, (tt, (last (inl name), tt)))), (inl tt, (tt, short_oid))),
                  ),
                ),
              ),
            ),
          ),
        ),
      ),
    )))

-- M DEFINITIONS ::= BEGIN IMPORTS .. ; the four of them, and END
example : Tree smi_module
unfolding smi_module
example =
    (tt, (tt, (tt, (tt, (inr (tt, (imported, (last tt, tt))), (of_module, (step of_entry (step of_parent (step of_row (last tt))), tt)))))))

-- the names of the definitions are the tokens 11, 26, 34 and 46, and their kinds 1, 6, 2 and 4
names : map (λ (d : Definition). d.name.0) (outline_of_tree example) ≡ 11 ∷ 26 ∷ 34 ∷ 46 ∷ []
unfolding smi_module module_tree outline_of_tree example
names = refl

kinds : map (λ (d : Definition). d.kind) (outline_of_tree example) ≡ 1 ∷ 6 ∷ 2 ∷ 4 ∷ []
unfolding smi_module module_tree outline_of_tree example
kinds = refl

-- a span that a definition lacks is empty, at its end
ends : ends_of_tree example ≡ 26 ∷ 34 ∷ 46 ∷ 65 ∷ []
unfolding smi_module module_tree ends_of_tree example
ends = refl

indices : map (λ (d : Definition). d.index) (outline_of_tree example) ≡ span 26 26 ∷ span 34 34 ∷ span 46 46 ∷ span 58 59 ∷ []
unfolding smi_module module_tree outline_of_tree example
indices = refl

columns : map (λ (d : Definition). d.columns) (outline_of_tree example) ≡ span 26 26 ∷ span 30 33 ∷ span 46 46 ∷ span 65 65 ∷ []
unfolding smi_module module_tree outline_of_tree example
columns = refl

-- status and access: lacking is 0
status : map (λ (d : Definition). d.status) (outline_of_tree example) ≡ 0 ∷ 0 ∷ 0 ∷ 1 ∷ []
unfolding smi_module module_tree outline_of_tree example
status = refl

access : map (λ (d : Definition). d.access) (outline_of_tree example) ≡ 0 ∷ 0 ∷ 0 ∷ 3 ∷ []
unfolding smi_module module_tree outline_of_tree example
access = refl

-- the number in brackets is one of the OID's, its label is not
numbers : numbers_of_tree example ≡ (24 ∷ []) ∷ [] ∷ (42 ∷ 44 ∷ []) ∷ (63 ∷ []) ∷ []
unfolding smi_module module_tree numbers_of_tree example
numbers = refl

imports : imports_of_tree example ≡ (5, 9) ∷ (7, 9) ∷ []
unfolding smi_module module_tree imports_of_tree example
imports = refl

uses : uses_of_tree example
    ≡ (12, Macro) ∷ (23, Head) ∷ (30, Object) ∷ (39, Head) ∷ (47, Macro) ∷ (49, ObjectType) ∷ (58, Object) ∷ (62, Head) ∷ []
unfolding smi_module module_tree uses_of_tree example
uses = refl
