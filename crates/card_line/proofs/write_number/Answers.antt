-- A number of 32 bits has ten digits at most.
use Rattle.std.proofs.Common.{arith}
use Rattle.card_line.proofs.Sizes.{digits_ten}
use Rattle.card_line.proofs.write_number.Goals as goal

pub write_decimal-requires : goal.write_decimal-requires
write_decimal-requires c = omega (arith, digits_ten c.args.n c.ranges.n.fits)

pub returns-clause-short : goal.returns-clause-short
returns-clause-short c = omega (arith, digits_ten c.args.n c.ranges.n.fits, c.write_decimal.ensures.next_is)
