-- `number_at` is right because the digits' value, cut off above the largest number, is over it exactly if the whole value is.
-- Assumes nothing.
use Rattle.std.proofs.Common.{◌∙◌, sym, arith}
use Rattle.terminal.specs.Terminal.{number}
use Rattle.piece.specs.Piece.{largest_number, non_negative}
use Rattle.piece.specs.declared.Cause.TheVariants.{NoToken, OutOfRange}
use Rattle.piece.proofs.Answered.{token, refused}
use Rattle.piece.proofs.Decimal.{over_limit, in_limit}
use Rattle.piece.proofs.number_at.Goals as goal

pub returns-then-is_misfit : goal.returns-then-is_misfit
unfolding non_negative
returns-then-is_misfit c =
    simp (sym c.is_misfit.ensures ∙ c.if-is_misfit.true) (refused _ NoToken _ _ c.at.ensures (omega arith))

pub returns-then-run-gt-LARGEST_NUMBER : goal.returns-then-run-gt-LARGEST_NUMBER
unfolding non_negative
returns-then-run-gt-LARGEST_NUMBER c =
    let run = c.digit_run-run.ensures in
    let over = over_limit c.args.text.now _ _ _ _ largest_number run.end run.value (omega arith) c.if-run-gt-LARGEST_NUMBER.true in
    simp (sym c.is_misfit.ensures ∙ c.if-is_misfit.false, over)
    (refused _ OutOfRange _ _ c.at-then-run-gt-LARGEST_NUMBER.ensures (omega arith))

pub returns : goal.returns
unfolding non_negative
returns c =
    let run = c.digit_run-run.ensures in
    let in_range = in_limit c.args.text.now _ _ _ _ largest_number run.end run.value (omega arith) c.if-run-gt-LARGEST_NUMBER.false in
    simp (sym c.is_misfit.ensures ∙ c.if-is_misfit.false, in_range) (token number _ _ run.end)
