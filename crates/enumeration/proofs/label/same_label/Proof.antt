-- `same_label` is right: the parts of the text are the spellings.
-- Assumes nothing.
use borrow.Author.Rules.{rules}
use Rattle.enumeration.proofs.label.same_label.Statement.{statement}
use Rattle.enumeration.proofs.label.same_label.Tie as tie

part-of-requires : tie.Need-part_of-a-requires
part-of-requires c κs = search rules

part-of-requires-2 : tie.Need-part_of-b-requires
part-of-requires-2 c κs = search rules

same-spelling-requires : tie.Need-same_spelling-requires
same-spelling-requires c κs = search rules

returns : tie.Need-returns
returns c =
    let b = c in
    rw (← b.part_of-a.ensures.1, ← b.part_of-b.ensures.1) c.same_spelling.ensures

pub same_label_spec : {M : Type 1} → statement M
same_label_spec =
    tie.close (tie.spec
    part-of-requires
    part-of-requires-2
    same-spelling-requires
    returns)
