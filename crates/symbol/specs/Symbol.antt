-- The built-in symbols: document 01, "Built-in symbols". One table has each symbol's name, the module that offers it, and what it
-- is. `iso` needs no import and stands by itself.
-- Assumes nothing.
use Rattle.std.specs.Prelude.{◌≡◌, Bool, ◌&&◌, List, [], ◌∷◌, ◌++◌, map, ℕ, ◌+◌, ◌≤◌, ltb, eqb, length, get_or}
use Prim.Native.String.{String}
use Rattle.index.specs.First.{first, any}
use Rattle.lexicon.specs.Word.{bytes, same, joined, start_of, between}
use Rattle.symbol.specs.declared.Sort.{Sort}

-- what a symbol is
pub data What : Type 0 where
  -- a name with an OID: its numbers
  oid : List ℕ → What
  -- a type: its class, as "Records" numbers the classes
  type : ℕ → What
  -- a macro
  macro : What

pub record Symbol : Type 0 where
  pub name : List ℕ
  -- the module that offers it, by its index among the modules
  pub module_index : ℕ
  pub what : What

-- the modules that can be imported from
unfoldable pub modules : List (List ℕ)
modules = bytes "SNMPv2-SMI" ∷ bytes "SNMPv2-TC" ∷ []

-- a name is that of one of them
unfoldable pub is_module : List ℕ → Bool
is_module s = any (λ (k : ℕ). same s (get_or modules k [])) 0 (length modules)

-- `iso`, and its OID
unfoldable pub iso_name : List ℕ
iso_name = bytes "iso"

unfoldable pub iso_oid : List ℕ
iso_oid = 1 ∷ []

-- The classes that "Records" numbers, but for table and row, which no type has.

abbrev pub integer : ℕ
integer = 1

abbrev pub enumerated : ℕ
enumerated = 2

abbrev pub octets : ℕ
octets = 3

abbrev pub object_identifier : ℕ
object_identifier = 4

abbrev pub bits : ℕ
bits = 5

abbrev pub ip_address : ℕ
ip_address = 6

abbrev pub counter32 : ℕ
counter32 = 7

abbrev pub gauge32 : ℕ
gauge32 = 8

abbrev pub unsigned32 : ℕ
unsigned32 = 9

abbrev pub time_ticks : ℕ
time_ticks = 10

abbrev pub opaque : ℕ
opaque = 11

abbrev pub counter64 : ℕ
counter64 = 12

-- a symbol of SNMPv2-SMI, and one of SNMPv2-TC
unfoldable pub of_smi : String → What → Symbol
of_smi s w = record { name = bytes s; module_index = 0; what = w }

unfoldable pub of_tc : String → What → Symbol
of_tc s w = record { name = bytes s; module_index = 1; what = w }

-- internet 1.3.6.1, and what lies below it
unfoldable pub internet : List ℕ
internet = 1 ∷ 3 ∷ 6 ∷ 1 ∷ []

unfoldable pub below_internet : List ℕ → What
below_internet numbers = oid (internet ++ numbers)

-- the symbols
unfoldable pub symbols : List Symbol
symbols =
    of_smi "org" (oid (1 ∷ 3 ∷ []))
    ∷ of_smi "dod" (oid (1 ∷ 3 ∷ 6 ∷ []))
    ∷ of_smi "internet" (below_internet [])
    ∷ of_smi "directory" (below_internet (1 ∷ []))
    ∷ of_smi "mgmt" (below_internet (2 ∷ []))
    ∷ of_smi "experimental" (below_internet (3 ∷ []))
    ∷ of_smi "private" (below_internet (4 ∷ []))
    ∷ of_smi "security" (below_internet (5 ∷ []))
    ∷ of_smi "snmpV2" (below_internet (6 ∷ []))
    ∷ of_smi "mib-2" (below_internet (2 ∷ 1 ∷ []))
    ∷ of_smi "transmission" (below_internet (2 ∷ 1 ∷ 10 ∷ []))
    ∷ of_smi "enterprises" (below_internet (4 ∷ 1 ∷ []))
    ∷ of_smi "snmpDomains" (below_internet (6 ∷ 1 ∷ []))
    ∷ of_smi "snmpProxys" (below_internet (6 ∷ 2 ∷ []))
    ∷ of_smi "snmpModules" (below_internet (6 ∷ 3 ∷ []))
    ∷ of_smi "zeroDotZero" (oid (0 ∷ 0 ∷ []))
    ∷ of_smi "Integer32" (type integer)
    ∷ of_smi "IpAddress" (type ip_address)
    ∷ of_smi "Counter32" (type counter32)
    ∷ of_smi "Gauge32" (type gauge32)
    ∷ of_smi "Unsigned32" (type unsigned32)
    ∷ of_smi "TimeTicks" (type time_ticks)
    ∷ of_smi "Opaque" (type opaque)
    ∷ of_smi "Counter64" (type counter64)
    ∷ of_smi "MODULE-IDENTITY" macro
    ∷ of_smi "OBJECT-IDENTITY" macro
    ∷ of_smi "OBJECT-TYPE" macro
    ∷ of_smi "NOTIFICATION-TYPE" macro
    ∷ of_tc "TEXTUAL-CONVENTION" macro
    ∷ of_tc "DisplayString" (type octets)
    ∷ of_tc "PhysAddress" (type octets)
    ∷ of_tc "MacAddress" (type octets)
    ∷ of_tc "DateAndTime" (type octets)
    ∷ of_tc "TAddress" (type octets)
    ∷ of_tc "TestAndIncr" (type integer)
    ∷ of_tc "TimeInterval" (type integer)
    ∷ of_tc "TruthValue" (type enumerated)
    ∷ of_tc "RowStatus" (type enumerated)
    ∷ of_tc "StorageType" (type enumerated)
    ∷ of_tc "AutonomousType" (type object_identifier)
    ∷ of_tc "InstancePointer" (type object_identifier)
    ∷ of_tc "VariablePointer" (type object_identifier)
    ∷ of_tc "RowPointer" (type object_identifier)
    ∷ of_tc "TDomain" (type object_identifier)
    ∷ of_tc "TimeStamp" (type time_ticks)
    ∷ []

-- the symbols' names
unfoldable pub symbol_names : List (List ℕ)
symbol_names = map (λ (s : Symbol). s.name) symbols

-- how many symbols there are
abbrev pub symbol_count : ℕ
symbol_count = 45

-- the index of the symbol with this name, or the number of symbols where none has it
unfoldable pub symbol_of : List ℕ → ℕ
symbol_of s = first (λ (k : ℕ). same s (get_or symbol_names k [])) 0 symbol_count

-- what stands for a symbol where the list has none at an index
unfoldable pub no_symbol : Symbol
no_symbol = record { name = []; module_index = 0; what = oid [] }

-- the symbol k
unfoldable pub symbol : ℕ → Symbol
symbol k = get_or symbols k no_symbol

-- the name of the module that offers symbol k
unfoldable pub module_name : ℕ → List ℕ
module_name k = get_or modules (symbol k).module_index []

-- what symbol k is
unfoldable pub what_is : ℕ → What
what_is k = (symbol k).what

-- the numbers of a name with an OID; a type and a macro have none
unfoldable pub numbers : What → List ℕ
numbers (oid ns) = ns
numbers (type class) = []
numbers macro = []

-- the numbers of symbol k
unfoldable pub numbers_of : ℕ → List ℕ
numbers_of k = numbers (what_is k)

-- what a symbol is, as the code says it
unfoldable pub sort_of : What → Sort
sort_of (oid ns) = Sort.Oid
sort_of (type class) = Sort.Type class
sort_of macro = Sort.Macro

-- the class of a type; 0 for what is no type
unfoldable pub type_class : What → ℕ
type_class (oid ns) = 0
type_class (type class) = class
type_class macro = 0

-- the same of what the code says
abbrev pub class_of_sort : Sort → ℕ
class_of_sort Sort.Oid = 0
class_of_sort (Sort.Type class) = class
class_of_sort Sort.Macro = 0

-- symbol k is one of SMI's eight types: a type that SNMPv2-SMI, the first of the modules, offers
unfoldable pub is_smi_type : ℕ → Bool
is_smi_type k = eqb (symbol k).module_index 0 && ltb 0 (type_class (what_is k))

-- where the list k starts, by a table of starts
unfoldable pub start_in : List ℕ → ℕ → ℕ
start_in starts k = get_or starts k 0

-- the list k of lists that are held one after the other, by their starts
abbrev pub part : List ℕ → List ℕ → ℕ → List ℕ
part whole starts k = between whole (start_in starts k) (start_in starts (k + 1))

-- some lists are held one after the other, with where each starts and where the last one ends
pub record Joined (parts : List (List ℕ)) (whole starts : List ℕ) : Type 0 where
  pub whole_is : whole ≡ joined parts
  pub starts_are : (k : ℕ) → k ≤ length parts → start_in starts k ≡ start_of parts k
