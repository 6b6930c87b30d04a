-- `is_named` is right because a name stands between its token's start and end.
-- Assumes nothing.
use borrow.Author.Rules.{rules}
use Rattle.scope.proofs.spelling.is_named.Statement.{statement}
use Rattle.scope.proofs.spelling.is_named.Tie as tie

mul_wide : tie.Need-offset_bounds-starts-i
mul_wide c = search rules

shared-slice-read-wide : tie.Need-bounds-starts-i
shared-slice-read-wide c = search rules

wide-requires : tie.Need-wide-requires
wide-requires c κs = search rules

mul-wide-2 : tie.Need-offset_bounds-ends-i
mul-wide-2 c = search rules

shared-slice-read-wide-2 : tie.Need-bounds-ends-i
shared-slice-read-wide-2 c = search rules

wide-requires-2 : tie.Need-wide-requires-2
wide-requires-2 c κs = search rules

same-spelling-requires : tie.Need-same_spelling-requires
same-spelling-requires c κs = search rules

returns : tie.Need-returns
returns c = rw (← c.wide.ensures, ← c.wide-2.ensures) c.same_spelling.ensures

pub is_named_spec : {M : Type 1} → statement M
is_named_spec =
    tie.close
    (tie.spec
    mul_wide
    shared-slice-read-wide
    wide-requires
    mul-wide-2
    shared-slice-read-wide-2
    wide-requires-2
    same-spelling-requires
    returns)
