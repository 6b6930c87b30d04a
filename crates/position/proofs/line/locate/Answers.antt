-- One byte more: it ends a line, or it does not.
use Rattle.std.proofs.Common.{arith}
use Rattle.std.proofs.lemmas.Grind.{common_steps}
use Rattle.position.proofs.LineLaws.{line_steps}
use Rattle.position.proofs.line.locate.Goals as goal

pub loop-i-preserved : goal.loop-i-preserved
loop-i-preserved c = grind (arith, common_steps, line_steps)
