-- A definition's measure is twice the heads left to follow, and a name's one more: a name that leads to a definition has as many heads
-- left as the definition, and a definition's head has one fewer.
-- Assumes nothing.
use Rattle.std.proofs.Common.{◌+◌, ◌*◌}
use Rattle.oid_head.proofs.reach.+definition_reaches_name_reaches.Given as goal

abbrev pub decreases-definition_reaches : goal.decreases-definition_reaches
decreases-definition_reaches l = 2 * l.left

abbrev pub decreases-name_reaches : goal.decreases-name_reaches
decreases-name_reaches l = 2 * l.left + 1
