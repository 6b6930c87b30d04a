-- The digits, of which there are few, and the byte behind them.
use Rattle.std.proofs.Common.{arith}
use Rattle.card_line.proofs.Sizes.{digits_few, wrote_then}
use Rattle.card_line.specs.Line.{field}
use Rattle.card_line.proofs.write_field.Goals as goal

pub write_decimal-next-requires : goal.write_decimal-next-requires
write_decimal-next-requires c = omega (arith, digits_few c.args.n c.ranges.n.fits)

pub put-requires : goal.put-requires
put-requires c = omega (arith, digits_few c.args.n c.ranges.n.fits, c.write_decimal-next.ensures.next_is, c.write_decimal-next.auto.out)

pub returns-clause-bytes : goal.returns-clause-bytes
unfolding field
returns-clause-bytes c =
    let p = c.write_decimal-next.ensures in
    wrote_then p (omega (arith, digits_few c.args.n c.ranges.n.fits, p.next_is)) c.put.ensures

pub returns-clause-short : goal.returns-clause-short
returns-clause-short c =
    omega (arith, digits_few c.args.n c.ranges.n.fits, c.write_decimal-next.ensures.next_is, c.put.ensures.next_is)
