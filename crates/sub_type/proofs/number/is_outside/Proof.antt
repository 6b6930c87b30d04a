-- `is_outside` is right: it goes by the limits as the definition does.
-- Assumes nothing.
use Rattle.sub_type.proofs.Signed.{passed_on}
use borrow.Author.Rules.{rules}
use Rattle.sub_type.proofs.number.is_outside.Statement.{statement}
use Rattle.sub_type.proofs.number.is_outside.Tie as tie

number-at-requires : tie.Need-number_at-value-requires
number-at-requires c κs = search rules

enum_told : tie.Need-enum_told-1
enum_told c = search rules

enum-told-2 : tie.Need-enum_told-in-Integer
enum-told-2 c = search rules

enum-told-3 : tie.Need-enum_told-in-Unsigned
enum-told-3 c = search rules

enum-told-4 : tie.Need-enum_told-in-Sizes
enum-told-4 c = search rules

returns : tie.Need-returns-in-Nothing
returns c = search rules

returns-2 : tie.Need-returns-in-Integer
returns-2 c =
    let number = c in
    rw (c.in-Integer.is, passed_on number.number_at-value.type_inv, ← number.number_at-value.ensures)

returns-3 : tie.Need-returns-in-Unsigned
returns-3 c =
    let number = c in
    rw (c.in-Unsigned.is, passed_on number.number_at-value.type_inv, ← number.number_at-value.ensures)

returns-4 : tie.Need-returns-in-Sizes
returns-4 c =
    let number = c in
    rw (c.in-Sizes.is, passed_on number.number_at-value.type_inv, ← number.number_at-value.ensures)

pub is_outside_spec : {M : Type 1} → statement M
is_outside_spec =
    tie.close
    (tie.spec
    number-at-requires
    enum_told
    enum-told-2
    enum-told-3
    enum-told-4
    returns
    returns-2
    returns-3
    returns-4)
