-- `name_at` is right by the token's class.
-- Assumes nothing.
use borrow.Author.Tests.{le-leb, lt-leb}
use Rattle.terminal.specs.Terminal.{lower}
use borrow.Author.Rules.{rules}
use Rattle.scope.proofs.spelling.name_at.Statement.{statement}
use Rattle.scope.proofs.spelling.name_at.Tie as tie

mul_wide : tie.Need-offset_bounds-starts-at
mul_wide c = search rules

shared-slice-read-wide : tie.Need-bounds-starts-at
shared-slice-read-wide c = search rules

wide-requires : tie.Need-wide-start-requires
wide-requires c κs = search rules

shared-slice-read-if1 : tie.Need-bounds-classes-at
shared-slice-read-if1 c = search rules

returns : tie.Need-returns-then-classes-at-lt-LOWER
returns c = rw c.wide-start.ensures (simp (lt-leb lower _ c.if-classes-at-lt-LOWER.true))

mul-wide-2 : tie.Need-offset_bounds-ends-at
mul-wide-2 c = search rules

shared-slice-read-wide-2 : tie.Need-bounds-ends-at
shared-slice-read-wide-2 c = search rules

wide-requires-2 : tie.Need-wide-requires
wide-requires-2 c κs = search rules

returns-2 : tie.Need-returns
returns-2 c = rw (c.wide-start.ensures, c.wide.ensures) (simp (le-leb lower _ c.if-classes-at-lt-LOWER.false))

pub name_at_spec : {M : Type 1} → statement M
name_at_spec =
    tie.close
    (tie.spec
    mul_wide
    shared-slice-read-wide
    wide-requires
    shared-slice-read-if1
    returns
    mul-wide-2
    shared-slice-read-wide-2
    wide-requires-2
    returns-2)
