-- What serves a need, by the sorts of symbols; and that a name which leads anywhere serves where no name is needed.
-- Assumes nothing.
use mathlib.Core.Path.{◌≡◌, refl, sym, ap}
use mathlib.Core.Bool.{true}
use mathlib.Core.List.{List}
use Prim.Native.Nat.{ℕ, ◌≤◌}
use native.Mathlib.Omega.{arith}
use lib.ListN.{length, get_or-eq_default}
use Rattle.symbol.specs.Symbol.{What, oid, type, macro, what_is, sort_of, symbol, symbols, symbol_count, no_symbol}
use Rattle.symbol.specs.declared.Sort.TheVariants.{Oid}
use Rattle.module_table.specs.declared.Definition.{Definition as Defined}
use Rattle.module_table.specs.declared.Lead.{Lead}
use Rattle.module_table.specs.declared.Lead.TheVariants.{Iso, Import, Definition, Nothing}
use Rattle.name_kind.specs.declared.need.Need.TheVariants.{NoName}
use Rattle.name_kind.specs.Serve.{is_oid_symbol, is_type_symbol, is_macro_symbol, serves, is_oid_sort, is_type_sort, is_macro_sort}

-- the sort of a symbol tells what it is
pub oid_sort : (w : What) → is_oid_sort (sort_of w) ≡ is_oid_symbol w
unfolding sort_of
oid_sort (oid numbers) = refl
oid_sort (type class) = refl
oid_sort macro = refl

pub type_sort : (w : What) → is_type_sort (sort_of w) ≡ is_type_symbol w
unfolding sort_of
type_sort (oid numbers) = refl
type_sort (type class) = refl
type_sort macro = refl

pub macro_sort : (w : What) → is_macro_sort (sort_of w) ≡ is_macro_symbol w
unfolding sort_of
macro_sort (oid numbers) = refl
macro_sort (type class) = refl
macro_sort macro = refl

-- past the last symbol there is none
all_symbols : length symbols ≡ symbol_count
unfolding symbols
all_symbols = refl

pub sort_past : (k : ℕ) → symbol_count ≤ k → Oid ≡ sort_of (what_is k)
unfolding what_is symbol no_symbol sort_of
sort_past k h = sym (ap (λ s. sort_of s.what) (get_or-eq_default symbols no_symbol (omega (arith, all_symbols))))

-- where no name is needed, any serves
pub no_name_needed : (ds : List Defined) (lead : Lead) → serves ds lead NoName ≡ true
unfolding serves
no_name_needed ds Iso = refl
no_name_needed ds (Import k) = refl
no_name_needed ds (Definition r) = refl
no_name_needed ds Nothing = refl
