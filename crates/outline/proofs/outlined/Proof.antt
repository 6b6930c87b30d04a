-- `outlined` is right field by field.
-- Assumes nothing.
use borrow.Author.Rules.{rules}
use Rattle.outline.proofs.outlined.Statement.{statement}
use Rattle.outline.proofs.outlined.Tie as tie

cast-t9 : tie.Need-overflow_cast-result
cast-t9 c = search rules

cast-t11 : tie.Need-overflow_cast-result-2
cast-t11 c = search rules

cast-t12 : tie.Need-overflow_cast-result-3
cast-t12 c = search rules

flag-requires : tie.Need-flag-requires
flag-requires c κs = search rules

returns : tie.Need-returns
returns c = simp c.flag.ensures

pub outlined_spec : {M : Type 1} → statement M
outlined_spec = tie.close (tie.spec
    cast-t9
    cast-t11
    cast-t12
    flag-requires
    returns)
