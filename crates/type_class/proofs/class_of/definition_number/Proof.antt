-- `definition_number` is right: it is the definition, case by case.
-- Assumes nothing.
use Rattle.module_table.specs.declared.Lead.{Lead}
use Rattle.module_table.specs.Lead.{definition_number}
use Prim.Native.Nat.{◌≤◌}
use native.Mathlib.Omega.{arith}
use mathlib.Core.Path.{subst}
use borrow.Author.Rules.{rules}
use Rattle.type_class.proofs.class_of.definition_number.Statement.{statement}
use Rattle.type_class.proofs.class_of.definition_number.Tie as tie

enum_told : tie.Need-enum_told-1
enum_told c = search rules

enum-told-2 : tie.Need-enum_told-in-Import
enum-told-2 c = search rules

enum-known-lead : tie.Need-enum_known-lead
enum-known-lead c = search rules

add-result : tie.Need-overflow_add-result
add-result c =
    let known = c in
    let few = subst (λ (l : Lead). definition_number l ≤ 512) known.in-Definition.is known.requires in
    omega arith

enum-told-3 : tie.Need-enum_told-in-Nothing
enum-told-3 c = search rules

returns : tie.Need-returns-in-Iso
returns c = search rules

returns-2 : tie.Need-returns-in-Import
returns-2 c = search rules

returns-3 : tie.Need-returns-in-Definition
returns-3 c = rw c.in-Definition.is

returns-4 : tie.Need-returns-in-Nothing
returns-4 c = search rules

pub definition_number_spec : {M : Type 1} → statement M
definition_number_spec =
    tie.close
    (tie.spec
    enum_told
    enum-told-2
    enum-known-lead
    add-result
    enum-told-3
    returns
    returns-2
    returns-3
    returns-4)
