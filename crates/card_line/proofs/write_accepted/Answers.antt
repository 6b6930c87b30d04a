-- The word, and behind it the count.
use Rattle.std.proofs.Common.{arith}
use Rattle.lexicon.specs.Word.{bytes}
use Rattle.card_line.proofs.Sizes.{wrote_then}
use Rattle.card_line.specs.Line.{accepted_line}
use Rattle.card_line.proofs.write_accepted.Goals as goal

pub returns-clause-bytes : goal.returns-clause-bytes
unfolding accepted_line bytes
returns-clause-bytes c =
    let p = c.copy-next.ensures in
    wrote_then p (omega (arith, p.next_is)) c.write_field.ensures.bytes
