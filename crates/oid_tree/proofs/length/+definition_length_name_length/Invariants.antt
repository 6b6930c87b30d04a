-- A definition's measure is twice the heads left to follow, and a name's one more: a name that leads to a definition has as many heads
-- left as the definition, and a definition's head has one fewer.
-- Assumes nothing.
use Rattle.std.proofs.Common.{◌+◌, ◌*◌}
use Rattle.oid_tree.proofs.length.+definition_length_name_length.Given as goal

abbrev pub decreases-definition_length : goal.decreases-definition_length
decreases-definition_length l = 2 * l.left

abbrev pub decreases-name_length : goal.decreases-name_length
decreases-name_length l = 2 * l.left + 1
