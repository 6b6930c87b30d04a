-- The name, and behind it a tab.
use Rattle.std.proofs.Common.{arith}
use Rattle.card_line.proofs.Sizes.{wrote_then}
use Rattle.card_line.specs.Line.{name_field}
use Rattle.card_line.proofs.write_name.Goals as goal

pub returns-clause-bytes : goal.returns-clause-bytes
unfolding name_field
returns-clause-bytes c = wrote_then c.copy-next.ensures (omega (arith, c.copy-next.ensures.next_is)) c.put.ensures
