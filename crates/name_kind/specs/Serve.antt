-- Whether what a name leads to serves the need: refusals 41 and 42.
-- Assumes nothing.
use Rattle.std.specs.Prelude.{Bool, true, false, ◌||◌, List, ℕ, eqb}
use Rattle.symbol.specs.Symbol.{What, oid, type, macro, what_is}
use Rattle.symbol.specs.declared.Sort.{Sort}
use Rattle.symbol.specs.declared.Sort.TheVariants as sort
use Rattle.definition.specs.Landmark.{has_oid, object, convention, sequence_type}
use Rattle.module_table.specs.declared.Definition.{Definition as Defined}
use Rattle.module_table.specs.Definition.{entry}
use Rattle.module_table.specs.declared.Lead.{Lead}
use Rattle.module_table.specs.declared.Lead.TheVariants.{Iso, Import, Definition, Nothing}
use Rattle.name_kind.specs.declared.need.Need.{Need}
use Rattle.name_kind.specs.declared.need.Need.TheVariants.{NoName, Macro, TypeName, ObjectType, Head, Object, Sequence}

-- a built-in symbol has an OID, is a type, is a macro
abbrev pub is_oid_symbol : What → Bool
is_oid_symbol (oid numbers) = true
is_oid_symbol (type class) = false
is_oid_symbol macro = false

abbrev pub is_type_symbol : What → Bool
is_type_symbol (oid numbers) = false
is_type_symbol (type class) = true
is_type_symbol macro = false

abbrev pub is_macro_symbol : What → Bool
is_macro_symbol (oid numbers) = false
is_macro_symbol (type class) = false
is_macro_symbol macro = true

-- a built-in symbol serves a need: as a macro, a type or a head
abbrev pub symbol_serves : What → Need → Bool
symbol_serves w NoName = true
symbol_serves w Macro = is_macro_symbol w
symbol_serves w TypeName = is_type_symbol w
symbol_serves w ObjectType = is_type_symbol w
symbol_serves w Head = is_oid_symbol w
symbol_serves w Object = false
symbol_serves w Sequence = false

-- a definition of this kind serves a need: a convention as a type, a SEQUENCE type after OF or as an object's type, an object as an
-- object, and what has an OID as a head
abbrev pub kind_serves : ℕ → Need → Bool
kind_serves kind NoName = true
kind_serves kind Macro = false
kind_serves kind TypeName = eqb kind convention
kind_serves kind ObjectType = eqb kind convention || eqb kind sequence_type
kind_serves kind Head = has_oid kind
kind_serves kind Object = eqb kind object
kind_serves kind Sequence = eqb kind sequence_type

-- `iso` serves as a head
abbrev pub iso_serves : Need → Bool
iso_serves NoName = true
iso_serves Macro = false
iso_serves TypeName = false
iso_serves ObjectType = false
iso_serves Head = true
iso_serves Object = false
iso_serves Sequence = false

-- a name that leads nowhere serves where no name is needed
abbrev pub nothing_serves : Need → Bool
nothing_serves NoName = true
nothing_serves Macro = false
nothing_serves TypeName = false
nothing_serves ObjectType = false
nothing_serves Head = false
nothing_serves Object = false
nothing_serves Sequence = false

-- what a name leads to serves the need, in a module of these definitions
unfoldable pub serves : List Defined → Lead → Need → Bool
serves ds Iso need = iso_serves need
serves ds (Import k) need = symbol_serves (what_is k) need
serves ds (Definition r) need = kind_serves (entry ds r.0).kind need
serves ds Nothing need = nothing_serves need

-- the sorts of symbols that the code tells apart
abbrev pub is_oid_sort : Sort → Bool
is_oid_sort sort.Oid = true
is_oid_sort (sort.Type class) = false
is_oid_sort sort.Macro = false

abbrev pub is_type_sort : Sort → Bool
is_type_sort sort.Oid = false
is_type_sort (sort.Type class) = true
is_type_sort sort.Macro = false

abbrev pub is_macro_sort : Sort → Bool
is_macro_sort sort.Oid = false
is_macro_sort (sort.Type class) = false
is_macro_sort sort.Macro = true
