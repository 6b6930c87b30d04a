-- `use_clause` is right because each need has the clause that the definition gives it.
-- Assumes nothing.
use mathlib.Core.Path.{◌≡◌, sym, ap, ◌∙◌}
use lib.ListN.{take}
use Rattle.name_kind.specs.Clause.{type_clause, object_clause, need_clause, use_clause}
use Rattle.name_kind.specs.declared.need.Need.{Need}
use borrow.Author.Rules.{rules}
use Rattle.name_kind.proofs.clause.use_clause.Statement.{statement}
use Rattle.name_kind.proofs.clause.use_clause.Tie as tie

abbrev start_of : tie.After-need_at-need → tie.Start
start_of n = n.before.before.before

-- the clause is that of what the token is needed as
by_need : (n : tie.After-need_at-need) (need : Need) → n.need_at-need.result ≡ need
    → (let s = start_of n in
    let cs = take s.args.n s.args.classes.now in
    need_clause cs s.args.i need ≡ use_clause cs s.args.i)
unfolding use_clause
by_need n need is =
    let s = start_of n in
    ap (need_clause (take s.args.n s.args.classes.now) s.args.i) (sym is ∙ n.need_at-need.ensures)

enclosing-at-requires : tie.Need-enclosing_at-word-requires
enclosing-at-requires c κs = search rules

need-at-requires : tie.Need-need_at-need-requires
need-at-requires c κs = search rules

enum_told : tie.Need-enum_told-1
enum_told c = search rules

enum-told-2 : tie.Need-enum_told-in-Macro
enum-told-2 c = search rules

enum-told-3 : tie.Need-enum_told-in-TypeName
enum-told-3 c = search rules

class-before-requires : tie.Need-class_before-requires
class-before-requires c κs = search rules

type-clause-requires : tie.Need-type_clause-requires
type-clause-requires c κs = search rules

enum-told-4 : tie.Need-enum_told-in-ObjectType
enum-told-4 c = search rules

enum-told-5 : tie.Need-enum_told-in-Head
enum-told-5 c = search rules

enum-told-6 : tie.Need-enum_told-in-Object
enum-told-6 c = search rules

object-clause-requires : tie.Need-object_clause-requires
object-clause-requires c κs = search rules

enum-told-7 : tie.Need-enum_told-in-Sequence
enum-told-7 c = search rules

returns : tie.Need-returns-in-NoName
returns c = by_need c.before _ c.in-NoName.is

returns-2 : tie.Need-returns-in-Macro
returns-2 c = by_need c.before _ c.in-Macro.is

returns-3 : tie.Need-returns-in-TypeName
returns-3 c =
    let told = c in
    c.type_clause.ensures ∙ ap type_clause c.class_before.ensures ∙ by_need told.before.before.before _ told.in-TypeName.is

returns-4 : tie.Need-returns-in-ObjectType
returns-4 c = by_need c.before _ c.in-ObjectType.is

returns-5 : tie.Need-returns-in-Head
returns-5 c = by_need c.before _ c.in-Head.is

returns-6 : tie.Need-returns-in-Object
returns-6 c =
    let told = c in
    let n = told in
    c.object_clause.ensures ∙ ap object_clause n.enclosing_at-word.ensures ∙ by_need n.before.before _ told.in-Object.is

returns-7 : tie.Need-returns-in-Sequence
returns-7 c = by_need c.before _ c.in-Sequence.is

pub use_clause_spec : {M : Type 1} → statement M
use_clause_spec =
    tie.close
    (tie.spec
    enclosing-at-requires
    need-at-requires
    enum_told
    enum-told-2
    enum-told-3
    class-before-requires
    type-clause-requires
    enum-told-4
    enum-told-5
    enum-told-6
    object-clause-requires
    enum-told-7
    returns
    returns-2
    returns-3
    returns-4
    returns-5
    returns-6
    returns-7)
