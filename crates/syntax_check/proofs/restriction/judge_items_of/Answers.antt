-- `judge_items_of` is right: nothing is tested, or the items are.
-- Assumes nothing.
use Rattle.syntax_check.proofs.Nothing.{nothing_kept}
use Rattle.syntax_check.proofs.restriction.judge_items_of.Goals as goal

pub returns-in-None : goal.returns-in-None
returns-in-None c = rw (← c.items_of.ensures, c.in-None.is) (nothing_kept 18)
