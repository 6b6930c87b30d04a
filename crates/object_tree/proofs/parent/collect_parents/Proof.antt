-- `collect_parents` is right: the parents are found in what it is lent, and then stored.
-- Assumes nothing.
use mathlib.Core.Path.{◌∙◌}
use Rattle.object_tree.proofs.Parents.{parents_stored}
use borrow.Author.Rules.{rules}
use Rattle.object_tree.proofs.parent.collect_parents.Statement.{statement}
use Rattle.object_tree.proofs.parent.collect_parents.Tie as tie

find-parents-requires : tie.Need-find_parents-requires
find-parents-requires c κs = search rules

store-parents-requires : tie.Need-store_parents-requires
store-parents-requires c κs = search rules

same_length : tie.Need-shape_of-definitions
same_length c = search rules

returns : tie.Need-returns
returns c = c.store_parents.ensures ∙ parents_stored _ _ _ c.find_parents.ensures

pub collect_parents_spec : {M : Type 1} → statement M
collect_parents_spec =
    tie.close (tie.spec
    find-parents-requires
    store-parents-requires
    same_length
    returns)
