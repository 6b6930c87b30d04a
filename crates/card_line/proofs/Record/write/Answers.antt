-- What the definition is, and behind it what is said of it.
use Rattle.std.proofs.Common.{arith}
use Rattle.card_line.proofs.Sizes.{wrote_then}
use Rattle.card_line.specs.Line.{record_line}
use Rattle.card_line.proofs.Record.write.Goals as goal

pub returns-clause-bytes : goal.returns-clause-bytes
unfolding record_line
returns-clause-bytes c =
    let p = c.write_definition-next.ensures in
    wrote_then p.bytes (omega (arith, p.short)) c.write_attributes.ensures.bytes
