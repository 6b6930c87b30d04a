use Rattle.std.proofs.Common.{arith}
use Rattle.lexicon.proofs.Tables.{classes}
use Rattle.lexicon.proofs.byte.class_of.Goals as goal

pub returns : goal.returns
returns c = classes.gives c.args.b (omega arith)
