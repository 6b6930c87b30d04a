-- `place_test` is right: it is the definition, case by case.
-- Assumes nothing.
use borrow.Author.Needs.{needs}
use Rattle·syntax_check·proofs.proofs.test.place_test.Statement.{statement}
use Rattle·syntax_check·proofs.proofs.test.place_test.Tie as tie

enum-told : tie.Need-enum-told
enum-told c = search needs

enum-known-restriction : tie.Need-enum-known-restriction
enum-known-restriction c = search needs

enum-known-restriction-2 : tie.Need-enum-known-restriction-2
enum-known-restriction-2 c = search needs

enum-told-2 : tie.Need-enum-told-2
enum-told-2 c = search needs

returns : tie.Need-returns
returns c = search needs

returns-2 : tie.Need-returns-2
returns-2 c = rw (c .before .restriction .given .1)

returns-3 : tie.Need-returns-3
returns-3 c = rw (c .before .restriction2 .given .1)

returns-4 : tie.Need-returns-4
returns-4 c = search needs

pub place-test-spec : {M : Type 1} → statement M
place-test-spec =
    tie.close
    (tie.spec
    enum-told
    enum-known-restriction
    enum-known-restriction-2
    enum-told-2
    returns
    returns-2
    returns-3
    returns-4)
