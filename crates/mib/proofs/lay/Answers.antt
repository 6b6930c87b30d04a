-- As many words as both are long are copied.
-- Assumes nothing.
use Rattle.mib.proofs.Laying.{laid_part}
use Rattle.mib.proofs.lay.Goals as goal

pub returns : goal.returns
returns c = simp (c.copy_from_slice.ensures.after, c.min-count.ensures) (laid_part c.args.words.now c.args.answer.now)
