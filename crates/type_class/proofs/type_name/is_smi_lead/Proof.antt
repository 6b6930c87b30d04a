-- `is_smi_lead` is right: it is the definition, case by case.
-- Assumes nothing.
use borrow.Author.Rules.{rules}
use Rattle.type_class.proofs.type_name.is_smi_lead.Statement.{statement}
use Rattle.type_class.proofs.type_name.is_smi_lead.Tie as tie

enum_told : tie.Need-enum_told-1
enum_told c = search rules

enum-known-lead : tie.Need-enum_known-lead
enum-known-lead c = search rules

is-smi-type-requires : tie.Need-is_smi_type-requires
is-smi-type-requires c κs = search rules

enum-told-2 : tie.Need-enum_told-in-Definition
enum-told-2 c = search rules

enum-told-3 : tie.Need-enum_told-in-Nothing
enum-told-3 c = search rules

returns : tie.Need-returns-in-Iso
returns c = search rules

returns-2 : tie.Need-returns-in-Import
returns-2 c = rw c.in-Import.is c.is_smi_type.ensures

returns-3 : tie.Need-returns-in-Definition
returns-3 c = search rules

returns-4 : tie.Need-returns-in-Nothing
returns-4 c = search rules

pub is_smi_lead_spec : {M : Type 1} → statement M
is_smi_lead_spec =
    tie.close
    (tie.spec
    enum_told
    enum-known-lead
    is-smi-type-requires
    enum-told-2
    enum-told-3
    returns
    returns-2
    returns-3
    returns-4)
