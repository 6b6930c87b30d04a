-- `limit_test` is right: it is the definition, case by case.
-- Assumes nothing.
use borrow.Author.Rules.{rules}
use Rattle.syntax_check.proofs.test.limit_test.Statement.{statement}
use Rattle.syntax_check.proofs.test.limit_test.Tie as tie

enum_told : tie.Need-enum_told-1
enum_told c = search rules

enum-known-restriction : tie.Need-enum_known-restriction
enum-known-restriction c = search rules

range-limits-requires : tie.Need-range_limits-requires
range-limits-requires c κs = search rules

enum-known-restriction-2 : tie.Need-enum_known-restriction-in-Sizes-1
enum-known-restriction-2 c = search rules

size-limits-requires : tie.Need-size_limits-requires
size-limits-requires c κs = search rules

enum-told-2 : tie.Need-enum_told-in-Enumeration
enum-told-2 c = search rules

returns : tie.Need-returns-in-Free
returns c = search rules

returns-2 : tie.Need-returns-in-Ranges
returns-2 c = rw (c.in-Ranges.is, ← c.range_limits.ensures)

returns-3 : tie.Need-returns-in-Sizes
returns-3 c = rw (c.in-Sizes.is, ← c.size_limits.ensures)

returns-4 : tie.Need-returns-in-Enumeration
returns-4 c = search rules

pub limit_test_spec : {M : Type 1} → statement M
limit_test_spec =
    tie.close
    (tie.spec
    enum_told
    enum-known-restriction
    range-limits-requires
    enum-known-restriction-2
    size-limits-requires
    enum-told-2
    returns
    returns-2
    returns-3
    returns-4)
