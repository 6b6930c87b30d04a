-- A definition's measure is twice the heads left to follow, and a name's one more: a name that leads to a definition has as many heads
-- left as the definition, and a definition's head has one fewer.
-- Assumes nothing.
use Rattle.std.proofs.Common.{◌+◌, ◌*◌}
use Rattle.oid_tree.proofs.writer.+write_definition_write_name.Given as goal

abbrev pub decreases-write_definition : goal.decreases-write_definition
decreases-write_definition l = 2 * l.left

abbrev pub decreases-write_name : goal.decreases-write_name
decreases-write_name l = 2 * l.left + 1
