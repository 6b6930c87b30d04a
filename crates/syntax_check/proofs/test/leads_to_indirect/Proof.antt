-- `leads_to_indirect` is right: it is the definition, case by case.
-- Assumes nothing.
use borrow.Author.Rules.{rules}
use Rattle.syntax_check.proofs.test.leads_to_indirect.Statement.{statement}
use Rattle.syntax_check.proofs.test.leads_to_indirect.Tie as tie

enum_told : tie.Need-enum_told-1
enum_told c = search rules

enum-told-2 : tie.Need-enum_told-in-Import
enum-told-2 c = search rules

enum-known-lead : tie.Need-enum_known-lead
enum-known-lead c = search rules

definition-at-requires : tie.Need-definition_at-requires
definition-at-requires c κs = search rules

is-indirect-requires : tie.Need-is_indirect-requires
is-indirect-requires c κs = search rules

enum-told-3 : tie.Need-enum_told-in-Nothing
enum-told-3 c = search rules

returns : tie.Need-returns-in-Iso
returns c = search rules

returns-2 : tie.Need-returns-in-Import
returns-2 c = search rules

returns-3 : tie.Need-returns-in-Definition
returns-3 c = rw (c.in-Definition.is, ← c.definition_at.ensures) c.is_indirect.ensures

returns-4 : tie.Need-returns-in-Nothing
returns-4 c = search rules

pub leads_to_indirect_spec : {M : Type 1} → statement M
leads_to_indirect_spec =
    tie.close
    (tie.spec
    enum_told
    enum-told-2
    enum-known-lead
    definition-at-requires
    is-indirect-requires
    enum-told-3
    returns
    returns-2
    returns-3
    returns-4)
