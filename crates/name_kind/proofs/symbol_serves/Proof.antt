-- `symbol_serves` is right because the sort of a symbol tells what it is.
-- Assumes nothing.
use mathlib.Core.Path.{sym, ap, ◌∙◌}
use Rattle.symbol.specs.Symbol.{what_is}
use Rattle.name_kind.specs.Serve.{symbol_serves}
use Rattle.name_kind.specs.Serve.{is_oid_sort, is_type_sort, is_macro_sort}
use Rattle.name_kind.proofs.Served.{oid_sort, type_sort, macro_sort}
use borrow.Author.Rules.{rules}
use Rattle.name_kind.proofs.symbol_serves.Statement.{statement}
use Rattle.name_kind.proofs.symbol_serves.Tie as tie

sort-at-requires : tie.Need-sort_at-sort-requires
sort-at-requires c κs = search rules

enum_told : tie.Need-enum_told-1
enum_told c = search rules

enum-told-2 : tie.Need-enum_told-in-Macro
enum-told-2 c = search rules

is-macro-sort-requires : tie.Need-is_macro_sort-requires
is-macro-sort-requires c κs = search rules

enum-told-3 : tie.Need-enum_told-in-TypeName
enum-told-3 c = search rules

is-type-sort-requires : tie.Need-is_type_sort-requires
is-type-sort-requires c κs = search rules

enum-told-4 : tie.Need-enum_told-in-ObjectType
enum-told-4 c = search rules

is-type-sort-requires-2 : tie.Need-is_type_sort-requires-in-ObjectType
is-type-sort-requires-2 c κs = search rules

enum-told-5 : tie.Need-enum_told-in-Head
enum-told-5 c = search rules

is-oid-sort-requires : tie.Need-is_oid_sort-requires
is-oid-sort-requires c κs = search rules

enum-told-6 : tie.Need-enum_told-in-Object
enum-told-6 c = search rules

enum-told-7 : tie.Need-enum_told-in-Sequence
enum-told-7 c = search rules

returns : tie.Need-returns-in-NoName
returns c = search rules

returns-2 : tie.Need-returns-in-Macro
returns-2 c =
    let s = c in
    c.is_macro_sort.ensures
    ∙ ap is_macro_sort c.sort_at-sort.ensures
    ∙ macro_sort (what_is s.args.k)
    ∙ sym (ap (symbol_serves (what_is s.args.k)) c.in-Macro.is)

returns-3 : tie.Need-returns-in-TypeName
returns-3 c =
    let s = c in
    c.is_type_sort.ensures
    ∙ ap is_type_sort c.sort_at-sort.ensures
    ∙ type_sort (what_is s.args.k)
    ∙ sym (ap (symbol_serves (what_is s.args.k)) c.in-TypeName.is)

returns-4 : tie.Need-returns-in-ObjectType
returns-4 c =
    let s = c in
    c.is_type_sort-in-ObjectType.ensures
    ∙ ap is_type_sort c.sort_at-sort.ensures
    ∙ type_sort (what_is s.args.k)
    ∙ sym (ap (symbol_serves (what_is s.args.k)) c.in-ObjectType.is)

returns-5 : tie.Need-returns-in-Head
returns-5 c =
    let s = c in
    c.is_oid_sort.ensures
    ∙ ap is_oid_sort c.sort_at-sort.ensures
    ∙ oid_sort (what_is s.args.k)
    ∙ sym (ap (symbol_serves (what_is s.args.k)) c.in-Head.is)

returns-6 : tie.Need-returns-in-Object
returns-6 c = search rules

returns-7 : tie.Need-returns-in-Sequence
returns-7 c = search rules

pub symbol_serves_spec : {M : Type 1} → statement M
symbol_serves_spec =
    tie.close
    (tie.spec
    sort-at-requires
    enum_told
    enum-told-2
    is-macro-sort-requires
    enum-told-3
    is-type-sort-requires
    enum-told-4
    is-type-sort-requires-2
    enum-told-5
    is-oid-sort-requires
    enum-told-6
    enum-told-7
    returns
    returns-2
    returns-3
    returns-4
    returns-5
    returns-6
    returns-7)
