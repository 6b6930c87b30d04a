-- `lead_class` is right: it is the definition, case by case.
-- Assumes nothing.
use borrow.Author.Rules.{rules}
use Rattle.type_class.proofs.class_of.lead_class.Statement.{statement}
use Rattle.type_class.proofs.class_of.lead_class.Tie as tie

enum_told : tie.Need-enum_told-1
enum_told c = search rules

enum-known-lead : tie.Need-enum_known-lead
enum-known-lead c = search rules

symbol-class-requires : tie.Need-symbol_class-requires
symbol-class-requires c κs = search rules

enum-known-lead-2 : tie.Need-enum_known-lead-in-Definition-1
enum-known-lead-2 c = search rules

definition-at-requires : tie.Need-definition_at-requires
definition-at-requires c κs = search rules

class-given-requires : tie.Need-class_given-requires
class-given-requires c κs = search rules

enum-told-2 : tie.Need-enum_told-in-Nothing
enum-told-2 c = search rules

returns : tie.Need-returns-in-Iso
returns c = search rules

returns-2 : tie.Need-returns-in-Import
returns-2 c = rw c.in-Import.is c.symbol_class.ensures

returns-3 : tie.Need-returns-in-Definition
returns-3 c = rw (c.in-Definition.is, ← c.definition_at.ensures) c.class_given.ensures

returns-4 : tie.Need-returns-in-Nothing
returns-4 c = search rules

pub lead_class_spec : {M : Type 1} → statement M
lead_class_spec =
    tie.close
    (tie.spec
    enum_told
    enum-known-lead
    symbol-class-requires
    enum-known-lead-2
    definition-at-requires
    class-given-requires
    enum-told-2
    returns
    returns-2
    returns-3
    returns-4)
