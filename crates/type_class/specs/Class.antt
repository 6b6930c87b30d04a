-- The class of a syntax: document 01, "Records". With it what breaks refusal 19, since such a convention has no class that counts.
-- `cs` are the classes of a module's tokens, `vs` their values.
-- Assumes nothing.
use Rattle.std.specs.Prelude.{Bool, true, false, not, ◌&&◌, ◌||◌, List, ℕ, ltb, eqb, length}
use Rattle.symbol.specs.Symbol.{integer, enumerated, octets, object_identifier, bits, what_is, type_class, is_smi_type}
use Rattle.definition.specs.Landmark.{object, convention, sequence_type}
use Rattle.definition.specs.Fields.{syntax_at}
use Rattle.definition.specs.declared.Span.{Span}
use Rattle.definition.specs.declared.Restriction.{Restriction}
use Rattle.definition.specs.declared.Restriction.TheVariants.{Free, Ranges, Sizes, Enumeration}
use Rattle.definition.specs.declared.Syntax.{Syntax}
use Rattle.definition.specs.declared.Syntax.TheVariants.{Integer, Named, Octets, ObjectIdentifier, Bits, SequenceOf}
use Rattle.module_table.specs.Definition.{entry}
use Rattle.module_table.specs.Lead.{lead_at, definition_number}
use Rattle.module_table.specs.declared.Definition.{Definition}
use Rattle.module_table.specs.declared.Lead.{Lead}
use Rattle.module_table.specs.declared.Lead.TheVariants.{Iso, Import, Definition as Defined, Nothing}
use Rattle.index.specs.Choice.{when◌then◌else◌}

-- The classes that no built-in type has.

abbrev pub table : ℕ
table = 13

abbrev pub row : ℕ
row = 14

-- The class of a convention that breaches 19, and of what names one. It never matters: 17 isn't tested there, and 19 refuses the
-- module before any other rule or record asks for the class. So conventions may name each other, even in a circle.
abbrev pub unsettled : ℕ
unsettled = 15

-- a definition has a syntax and a class: it is an object or a convention
abbrev pub has_syntax : Definition → Bool
has_syntax d = eqb d.kind object || eqb d.kind convention

-- the syntax that stands in a span of tokens; a span that starts behind the last token says no more than OBJECT IDENTIFIER does
unfoldable pub syntax_in : List ℕ → Span → Syntax
syntax_in cs s = when ltb s.from (length cs) then syntax_at cs s.from s.to else ObjectIdentifier

-- a syntax is a type's name
abbrev pub is_named : Syntax → Bool
is_named (Integer r) = false
is_named (Named t r) = true
is_named (Octets r) = false
is_named ObjectIdentifier = false
is_named (Bits r) = false
is_named (SequenceOf t) = false

-- what the name of a type in a syntax leads to: the syntax is that name, or it stands after OF
abbrev pub lead_of : List ℕ → Syntax → Lead
lead_of vs (Integer r) = Nothing
lead_of vs (Named t r) = lead_at vs t.0
lead_of vs (Octets r) = Nothing
lead_of vs ObjectIdentifier = Nothing
lead_of vs (Bits r) = Nothing
lead_of vs (SequenceOf t) = lead_at vs t.0

-- a name leads to one of SMI's eight types, imported
abbrev pub is_smi_lead : Lead → Bool
is_smi_lead Iso = false
is_smi_lead (Import k) = is_smi_type k
is_smi_lead (Defined r) = false
is_smi_lead Nothing = false

-- a syntax is a name that isn't one of SMI's eight types, imported
abbrev pub names_another : List ℕ → Syntax → Bool
names_another vs x = is_named x && not (is_smi_lead (lead_of vs x))

-- 19: a convention whose SYNTAX name isn't one of SMI's eight types, imported
abbrev pub is_indirect : List ℕ → List ℕ → Definition → Bool
is_indirect cs vs d = eqb d.kind convention && names_another vs (syntax_in cs d.syntax)

-- the class of INTEGER: enumerated where it has an enumeration
abbrev pub integer_class : Restriction → ℕ
integer_class Free = integer
integer_class (Ranges s) = integer
integer_class (Sizes s) = integer
integer_class (Enumeration s) = enumerated

-- the class of a syntax, where `class` is that of its name
abbrev pub syntax_class : Syntax → ℕ → ℕ
syntax_class (Integer r) class = integer_class r
syntax_class (Named t r) class = class
syntax_class (Octets r) class = octets
syntax_class ObjectIdentifier class = object_identifier
syntax_class (Bits r) class = bits
syntax_class (SequenceOf t) class = table

-- the class of a built-in type; 0 where a name leads to none
abbrev pub built_in_class : Lead → ℕ
built_in_class Iso = 0
built_in_class (Import k) = type_class (what_is k)
built_in_class (Defined r) = 0
built_in_class Nothing = 0

-- the class of a convention with this syntax
unfoldable pub convention_class : List ℕ → Syntax → ℕ
convention_class vs x = when names_another vs x then unsettled else syntax_class x (built_in_class (lead_of vs x))

-- the class that a definition gives an object that names it: a convention's own, row for a SEQUENCE type; 0 for what is no type
abbrev pub class_given : Definition → ℕ
class_given d = when eqb d.kind convention then d.class else when eqb d.kind sequence_type then row else 0

-- the class of an object whose name leads there; `ds` are the definitions, the conventions with their classes
abbrev pub lead_class : List Definition → Lead → ℕ
lead_class ds Iso = 0
lead_class ds (Import k) = type_class (what_is k)
lead_class ds (Defined r) = class_given (entry ds r.0)
lead_class ds Nothing = 0

-- the class of an object with this syntax
unfoldable pub object_class : List ℕ → List Definition → Syntax → ℕ
object_class vs ds x = syntax_class x (lead_class ds (lead_of vs x))

-- the SEQUENCE type of an object with this class and syntax, by its number among the definitions, counted from 1: that of a table
-- stands after OF, that of a row is its syntax; 0 for what is neither
unfoldable pub sequence_number : List ℕ → ℕ → Syntax → ℕ
sequence_number vs class x = when eqb class table || eqb class row then definition_number (lead_of vs x) else 0
