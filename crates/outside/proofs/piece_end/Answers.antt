-- `piece_end` is right: it is where what is found ends.
-- Assumes nothing.
use Rattle.outside.proofs.Ends.{found_end, past_end}
use Rattle.outside.proofs.piece_end.Goals as goal

pub returns-then-text-at-clause-is : goal.returns-then-text-at-clause-is
returns-then-text-at-clause-is c = past_end c.args.text.now c.args.at c.if-text-at.true

pub returns-in-Ok-Gap-clause-is : goal.returns-in-Ok-Gap-clause-is
returns-in-Ok-Gap-clause-is c =
    (found_end c.args.text.now c.args.at c.if-text-at.false _ (rw c.in-Ok-Gap.field-0-is at c.in-Ok-Gap.ensures)).0

pub returns-in-Ok-Gap-clause-high : goal.returns-in-Ok-Gap-clause-high
returns-in-Ok-Gap-clause-high c =
    (found_end c.args.text.now c.args.at c.if-text-at.false _ (rw c.in-Ok-Gap.field-0-is at c.in-Ok-Gap.ensures)).2

pub returns-in-Ok-Token-clause-is : goal.returns-in-Ok-Token-clause-is
returns-in-Ok-Token-clause-is c =
    (found_end c.args.text.now c.args.at c.if-text-at.false _ (rw c.in-Ok-Token.field-0-is at c.in-Ok-Token.ensures)).0

pub returns-in-Ok-Token-clause-high : goal.returns-in-Ok-Token-clause-high
returns-in-Ok-Token-clause-high c =
    (found_end c.args.text.now c.args.at c.if-text-at.false _ (rw c.in-Ok-Token.field-0-is at c.in-Ok-Token.ensures)).2

pub returns-in-Err-clause-is : goal.returns-in-Err-clause-is
returns-in-Err-clause-is c = found_end c.args.text.now c.args.at c.if-text-at.false _ c.in-Err.ensures
