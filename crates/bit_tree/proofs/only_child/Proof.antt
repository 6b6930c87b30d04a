-- `only_child` is right by its two sides.
-- Assumes nothing.
use borrow.Author.Rules.{rules}
use Rattle.bit_tree.proofs.only_child.Statement.{statement}
use Rattle.bit_tree.proofs.only_child.Tie as tie

cast-result : tie.Need-overflow_cast-result
cast-result c = search rules

mul-result : tie.Need-overflow_mul-result
mul-result c = search rules

returns : tie.Need-returns-then-side
returns c = simp c.if-side.true

cast-result-2 : tie.Need-overflow_cast-result-2
cast-result-2 c = search rules

returns-2 : tie.Need-returns
returns-2 c = search rules

pub only_child_spec : {M : Type 1} → statement M
only_child_spec = tie.close (tie.spec
    cast-result
    mul-result
    returns
    cast-result-2
    returns-2)
