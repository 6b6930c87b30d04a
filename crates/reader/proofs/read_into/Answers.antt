-- `read_into` is right: a text that is not derived is refused by its parsing, and any other is judged.
-- Assumes nothing.
use Rattle.reader.proofs.Laying.{slices_held}
use Rattle.reader.proofs.read_into.Goals as goal

pub read_derived-requires-clause-tokens : goal.read_derived-requires-clause-tokens
read_derived-requires-clause-tokens c = slices_held _ _ _ _ _ c.in-Ok.ensures.table
