-- One store is the write of one byte.
-- Assumes nothing.
use Rattle.std.proofs.Common.{refl}
use Rattle.buffer.proofs.Writing.{written_one}
use Rattle.buffer.proofs.put.Goals as goal

pub returns : goal.returns
returns c = record { next_is = refl; buffer_is = written_one c.args.out.now c.args.at c.args.b c.requires }
