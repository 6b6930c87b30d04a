-- The tables of the symbols are the symbols', each by one computed comparison; no two symbols have the same name; and each name
-- is spelled as what it names.
-- Assumes nothing.
use mathlib.Core.Path.{◌≡◌, refl, sym, ap, ◌∙◌}
use mathlib.Core.Bool.{Bool, false, ◌&&◌, ◌||◌}
use mathlib.Core.List.{List, [], map}
use Prim.Native.Nat.{ℕ, ◌+◌, ◌≤◌, ◌<◌}
use native.Mathlib.Decide.{dec_lt}
use native.Mathlib.Omega.{arith}
use borrow.Author.Tests.{ne_eqb}
use lib.Dec.{eqb, eqb→eq, ltb, ltb→lt}
use lib.ListN.{length, get_or, get_or-map, get_or-eq_default}
use Rattle.index.specs.First.{first, first_of}
use Rattle.index.proofs.Tested.{tested}
use Rattle.terminal.specs.Terminal.{lower, Upper, MODULE-IDENTITY, OBJECT-IDENTITY, OBJECT-TYPE, NOTIFICATION-TYPE, TEXTUAL-CONVENTION}
use Rattle.lexicon.specs.Word.{bytes, same, name_class}
use Rattle.symbol.specs.Symbol.{What, oid, type, macro, Symbol, symbols, modules, symbol_names, symbol_count, symbol_of, symbol, no_symbol, of_smi, of_tc, below_internet, what_is, numbers, numbers_of, sort_of, type_class, class_of_sort, is_smi_type, start_in, Joined}
use Rattle.symbol.specs.declared.Sort.{Sort}
use Rattle.symbol.proofs.Joined.{part_length, part_inside, part_at}

-- there are as many symbols as the number says
pub counted : length symbol_names ≡ symbol_count
unfolding symbol_names symbols
counted = refl

pub in_names : (k : ℕ) → k < symbol_count → k < length symbol_names
in_names k h = rw counted h

pub name_is : (k : ℕ) → get_or symbol_names k [] ≡ (symbol k).name
unfolding symbol_names symbol no_symbol
name_is k = get_or-map (λ (s : Symbol). s.name) symbols k no_symbol

-- the index of the module that offers each symbol
unfoldable pub module_indices : List ℕ
module_indices = map (λ (s : Symbol). s.module_index) symbols

pub module_index_is : (k : ℕ) → get_or module_indices k 0 ≡ (symbol k).module_index
unfolding module_indices symbol no_symbol
module_index_is k = get_or-map (λ (s : Symbol). s.module_index) symbols k no_symbol

-- it is that of a module
in_modules : ℕ → ℕ → Bool
in_modules k index = ltb index (length modules)

pub module_inside : (k : ℕ) → k < symbol_count → (symbol k).module_index < length modules
unfolding in_modules module_indices symbols of_smi of_tc modules
module_inside k h =
    rw module_index_is at (ltb→lt (get_or module_indices k 0) (length modules) (tested in_modules 0 module_indices tt k h))

-- what each symbol is, as the code says it
unfoldable pub sorts : List Sort
sorts = map (λ (s : Symbol). sort_of s.what) symbols

pub sort_is : (k : ℕ) → get_or sorts k Sort.Oid ≡ sort_of (what_is k)
unfolding sorts what_is symbol no_symbol sort_of
sort_is k = get_or-map (λ (s : Symbol). sort_of s.what) symbols k no_symbol

-- the numbers of each symbol
unfoldable pub symbol_numbers : List (List ℕ)
symbol_numbers = map (λ (s : Symbol). numbers s.what) symbols

pub numbers_are : (k : ℕ) → get_or symbol_numbers k [] ≡ numbers_of k
unfolding symbol_numbers numbers_of numbers what_is symbol no_symbol
numbers_are k = get_or-map (λ (s : Symbol). numbers s.what) symbols k no_symbol

in_numbers : (k : ℕ) → k < symbol_count → k < length symbol_numbers
unfolding symbol_numbers symbols
in_numbers k h = h

-- the numbers of symbol k, in a table of them all
module _ {whole starts : List ℕ} (k : ℕ) (h : k < symbol_count) {from : ℕ} (is : from ≡ start_in starts k) (t : Joined symbol_numbers whole starts) where
  pub numbers_length : {to : ℕ} → to ≡ start_in starts (k + 1) → to ≡ from + length (numbers_of k)
  numbers_length e = rw numbers_are at (part_length symbol_numbers whole starts t k (in_numbers k h) is e)

  module _ (j : ℕ) (l : j < length (numbers_of k)) where
    own : j < length (get_or symbol_numbers k [])
    own = rw numbers_are l

    pub number_inside : from + j < length whole
    number_inside = part_inside symbol_numbers whole starts t k (in_numbers k h) is j own

    pub number_at : get_or whole (from + j) 0 ≡ get_or (numbers_of k) j 0
    number_at = part_at symbol_numbers whole starts t k (in_numbers k h) is j own ∙ rw numbers_are refl

-- a symbol's name leads to its index
own_index : ℕ → List ℕ → Bool
own_index k name = eqb (symbol_of name) k

pub found_again : (k : ℕ) → k < symbol_count → symbol_of (get_or symbol_names k []) ≡ k
unfolding own_index symbol_of first first_of same symbol_names symbols of_smi of_tc bytes
found_again k h = eqb→eq (symbol_of (get_or symbol_names k [])) k (tested own_index [] symbol_names tt k h)

-- a token that has the name of an OID is a *lower*, one that has a type's an *Upper*, and one that has a macro's a macro word
unfoldable pub spelled_as : What → ℕ → Bool
spelled_as (oid ns) class = eqb class lower
spelled_as (type c) class = eqb class Upper
spelled_as macro class =
    eqb class MODULE-IDENTITY || eqb class OBJECT-IDENTITY || eqb class OBJECT-TYPE || eqb class NOTIFICATION-TYPE || eqb class TEXTUAL-CONVENTION

well_spelled : ℕ → Symbol → Bool
well_spelled k s = spelled_as s.what (name_class s.name)

-- the class of a type, by what the code says of it; past the last symbol there is none
pub class_said : (w : What) → class_of_sort (sort_of w) ≡ type_class w
unfolding sort_of type_class
class_said (oid ns) = refl
class_said (type class) = refl
class_said macro = refl

all_symbols : length symbols ≡ symbol_count
unfolding symbols
all_symbols = refl

past_symbols : (k : ℕ) → symbol_count ≤ k → symbol k ≡ no_symbol
unfolding symbol
past_symbols k h = get_or-eq_default symbols no_symbol (omega (arith, all_symbols))

pub class_past : (k : ℕ) → symbol_count ≤ k → 0 ≡ type_class (what_is k)
unfolding what_is no_symbol type_class
class_past k h = sym (ap (λ (s : Symbol). type_class s.what) (past_symbols k h))

pub smi_type_past : (k : ℕ) → symbol_count ≤ k → false ≡ is_smi_type k
unfolding is_smi_type what_is no_symbol type_class
smi_type_past k h =
    sym (ap (λ (s : Symbol). eqb s.module_index 0 && ltb 0 (type_class s.what)) (past_symbols k h))

-- whether a symbol is one of SMI's types, by the index of its module and its class
module _ (k : ℕ) where
  pub smi_type_first : get_or module_indices k 0 ≡ 0 → (class : ℕ) → class ≡ type_class (what_is k) → ltb 0 class ≡ is_smi_type k
  unfolding is_smi_type
  smi_type_first first class is = rw (← module_index_is k, first, is)

  pub smi_type_later : (get_or module_indices k 0 ≡ 0 → ⊥) → eqb (get_or module_indices k 0) 0 ≡ is_smi_type k
  unfolding is_smi_type
  smi_type_later later = rw (← module_index_is k) (simp (ne_eqb (get_or module_indices k 0) 0 later))

-- the class of each type is one of the first twelve
in_classes : ℕ → Symbol → Bool
in_classes k s = ltb (type_class s.what) 13

listed_class_small : (k : ℕ) → k < symbol_count → type_class (what_is k) < 13
unfolding in_classes type_class what_is symbol no_symbol symbols of_smi of_tc below_internet
listed_class_small k h = ltb→lt (type_class (what_is k)) 13 (tested in_classes no_symbol symbols tt k h)

pub class_small : (k : ℕ) → type_class (what_is k) < 13
class_small k = go (dec_lt k symbol_count)
  where
    go : Dec (k < symbol_count) → type_class (what_is k) < 13
    go (yes h) = listed_class_small k h
    go (no h) = omega (arith, class_past k (omega arith))
