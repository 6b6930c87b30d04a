-- `lead_of` is right: it is the definition, case by case.
-- Assumes nothing.
use borrow.Author.Rules.{rules}
use Rattle.type_class.proofs.type_name.lead_of.Statement.{statement}
use Rattle.type_class.proofs.type_name.lead_of.Tie as tie

enum_told : tie.Need-enum_told-1
enum_told c = search rules

enum-known-syntax : tie.Need-enum_known-syntax
enum-known-syntax c = search rules

lead-at-requires : tie.Need-lead_at-requires
lead-at-requires c κs = search rules

enum-told-2 : tie.Need-enum_told-in-Octets
enum-told-2 c = search rules

enum-told-3 : tie.Need-enum_told-in-ObjectIdentifier
enum-told-3 c = search rules

enum-told-4 : tie.Need-enum_told-in-Bits
enum-told-4 c = search rules

enum-known-syntax-2 : tie.Need-enum_known-syntax-in-SequenceOf-1
enum-known-syntax-2 c = search rules

lead-at-requires-2 : tie.Need-lead_at-requires-in-SequenceOf
lead-at-requires-2 c κs = search rules

returns : tie.Need-returns-in-Integer
returns c = search rules

returns-2 : tie.Need-returns-in-Named
returns-2 c = rw c.in-Named.is c.lead_at.ensures

returns-3 : tie.Need-returns-in-Octets
returns-3 c = search rules

returns-4 : tie.Need-returns-in-ObjectIdentifier
returns-4 c = search rules

returns-5 : tie.Need-returns-in-Bits
returns-5 c = search rules

returns-6 : tie.Need-returns-in-SequenceOf
returns-6 c = rw c.in-SequenceOf.is c.lead_at-in-SequenceOf.ensures

pub lead_of_spec : {M : Type 1} → statement M
lead_of_spec =
    tie.close
    (tie.spec
    enum_told
    enum-known-syntax
    lead-at-requires
    enum-told-2
    enum-told-3
    enum-told-4
    enum-known-syntax-2
    lead-at-requires-2
    returns
    returns-2
    returns-3
    returns-4
    returns-5
    returns-6)
