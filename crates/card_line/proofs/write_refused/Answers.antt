-- The word, and behind it number and place.
use Rattle.std.proofs.Common.{arith}
use Rattle.lexicon.specs.Word.{bytes}
use Rattle.card_line.proofs.Sizes.{wrote_then}
use Rattle.card_line.specs.Line.{refused_line}
use Rattle.card_line.proofs.write_refused.Goals as goal

pub returns-clause-bytes : goal.returns-clause-bytes
unfolding refused_line bytes
returns-clause-bytes c =
    let p = c.copy-next in
    let q = c.write_field-next in
    wrote_then p.ensures (omega (arith, p.ensures.next_is))
    (wrote_then q.ensures.bytes (omega (arith, p.ensures.next_is, p.auto.out, q.ensures.short)) c.write_field.ensures.bytes)
