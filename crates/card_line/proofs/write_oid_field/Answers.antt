-- The numbers, and behind them a tab.
use Rattle.std.proofs.Common.{arith}
use Rattle.card_line.proofs.Sizes.{wrote_then}
use Rattle.card_line.specs.Line.{oid_field}
use Rattle.card_line.proofs.write_oid_field.Goals as goal

pub returns-clause-bytes : goal.returns-clause-bytes
unfolding oid_field
returns-clause-bytes c =
    let p = c.write_dotted-next.ensures in
    wrote_then p.bytes (omega (arith, p.short)) c.put.ensures
