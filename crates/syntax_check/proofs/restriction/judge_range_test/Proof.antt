-- `judge_range_test` is right: nothing is tested, or the ranges are, against each other or for their limits.
-- Assumes nothing.
use Rattle.syntax_check.proofs.Nothing.{nothing_kept}
use borrow.Author.Rules.{rules}
use Rattle.syntax_check.proofs.restriction.judge_range_test.Statement.{statement}
use Rattle.syntax_check.proofs.restriction.judge_range_test.Tie as tie

enum_told : tie.Need-enum_told-1
enum_told c = search rules

enum-known-test : tie.Need-enum_known-test
enum-known-test c = search rules

judge-misplaced-requires : tie.Need-judge_misplaced-requires
judge-misplaced-requires c κs = search rules

enum-known-test-2 : tie.Need-enum_known-test-in-Within-1
enum-known-test-2 c = search rules

judge-limits-requires : tie.Need-judge_limits-requires
judge-limits-requires c κs = search rules

returns : tie.Need-returns-in-Untested
returns c number = rw c.in-Untested.is (nothing_kept number)

returns-2 : tie.Need-returns-in-Placed
returns-2 c number = rw c.in-Placed.is c.judge_misplaced.ensures

returns-3 : tie.Need-returns-in-Within
returns-3 c number = rw c.in-Within.is c.judge_limits.ensures

pub judge_range_test_spec : {M : Type 1} → statement M
judge_range_test_spec =
    tie.close
    (tie.spec
    enum_told
    enum-known-test
    judge-misplaced-requires
    enum-known-test-2
    judge-limits-requires
    returns
    returns-2
    returns-3)
