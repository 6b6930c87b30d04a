-- `kind_serves` is right because each need asks the kind what the definition asks.
-- Assumes nothing.
use mathlib.Core.Path.{sym, ap, ◌∙◌}
use Rattle.name_kind.specs.Serve.{kind_serves}
use borrow.Author.Rules.{rules}
use Rattle.name_kind.proofs.kind_serves.Statement.{statement}
use Rattle.name_kind.proofs.kind_serves.Tie as tie

enum_told : tie.Need-enum_told-1
enum_told c = search rules

enum-told-2 : tie.Need-enum_told-in-Macro
enum-told-2 c = search rules

enum-told-3 : tie.Need-enum_told-in-TypeName
enum-told-3 c = search rules

cast-result : tie.Need-overflow_cast-result
cast-result c = search rules

enum-told-4 : tie.Need-enum_told-in-ObjectType
enum-told-4 c = search rules

is-object-type-requires : tie.Need-is_object_type-requires
is-object-type-requires c κs = search rules

enum-told-5 : tie.Need-enum_told-in-Head
enum-told-5 c = search rules

has-oid-requires : tie.Need-has_oid-requires
has-oid-requires c κs = search rules

enum-told-6 : tie.Need-enum_told-in-Object
enum-told-6 c = search rules

cast-result-2 : tie.Need-overflow_cast-result-in-Object
cast-result-2 c = search rules

enum-told-7 : tie.Need-enum_told-in-Sequence
enum-told-7 c = search rules

cast-result-3 : tie.Need-overflow_cast-result-in-Sequence
cast-result-3 c = search rules

returns : tie.Need-returns-in-NoName
returns c = search rules

returns-2 : tie.Need-returns-in-Macro
returns-2 c = search rules

returns-3 : tie.Need-returns-in-TypeName
returns-3 c = sym (ap (kind_serves c.args.kind) c.in-TypeName.is)

returns-4 : tie.Need-returns-in-ObjectType
returns-4 c = c.is_object_type.ensures ∙ sym (ap (kind_serves c.args.kind) c.in-ObjectType.is)

returns-5 : tie.Need-returns-in-Head
returns-5 c = c.has_oid.ensures ∙ sym (ap (kind_serves c.args.kind) c.in-Head.is)

returns-6 : tie.Need-returns-in-Object
returns-6 c = sym (ap (kind_serves c.args.kind) c.in-Object.is)

returns-7 : tie.Need-returns-in-Sequence
returns-7 c = sym (ap (kind_serves c.args.kind) c.in-Sequence.is)

pub kind_serves_spec : {M : Type 1} → statement M
kind_serves_spec =
    tie.close
    (tie.spec
    enum_told
    enum-told-2
    enum-told-3
    cast-result
    enum-told-4
    is-object-type-requires
    enum-told-5
    has-oid-requires
    enum-told-6
    cast-result-2
    enum-told-7
    cast-result-3
    returns
    returns-2
    returns-3
    returns-4
    returns-5
    returns-6
    returns-7)
