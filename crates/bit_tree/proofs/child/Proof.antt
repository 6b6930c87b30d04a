-- `child` is right because a word holds one child in each half.
-- Assumes nothing.
use borrow.Author.Rules.{rules}
use Rattle.bit_tree.proofs.child.Statement.{statement}
use Rattle.bit_tree.proofs.child.Tie as tie

mul-word : tie.Need-offset_bounds-links-j
mul-word c = search rules

shared-slice-read-word : tie.Need-bounds-links-j
shared-slice-read-word c = search rules

wide-requires : tie.Need-wide-requires
wide-requires c κs = search rules

returns : tie.Need-returns-then-side
returns c = simp c.if-side.true c.wide.ensures

wide-requires-2 : tie.Need-wide-requires-2
wide-requires-2 c κs = search rules

returns-2 : tie.Need-returns
returns-2 c = simp c.if-side.false c.wide-2.ensures

pub child_spec : {M : Type 1} → statement M
child_spec =
    tie.close
    (tie.spec
    mul-word
    shared-slice-read-word
    wide-requires
    returns
    wide-requires-2
    returns-2)
