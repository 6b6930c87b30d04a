-- `negative_at` is right because the digits' value, cut off above the largest number, is over the limit exactly if the whole value is.
-- Assumes nothing.
use Rattle.std.proofs.Common.{◌+◌, ◌∙◌, sym, List, ℕ, arith}
use Rattle.terminal.specs.Terminal.{negative}
use Rattle.lexicon.proofs.Places.{first_is, first_not}
use Rattle.piece.specs.Piece.{largest_negative, below_zero}
use Rattle.piece.specs.declared.Cause.TheVariants.{NoToken, OutOfRange}
use Rattle.piece.proofs.Answered.{token, refused}
use Rattle.piece.proofs.Decimal.{over_limit, in_limit}
use Rattle.piece.proofs.negative_at.Goals.{then-byte_at-eq48-via-then-byte_at-eq48, then-byte_at-eq48-via-else-byte_at-eq48+then-is_misfit}
use Rattle.piece.proofs.negative_at.Goals as goal

pub returns-then-byte_at-eq48 : goal.returns-then-byte_at-eq48
unfolding below_zero
returns-then-byte_at-eq48 c =
    let t : List ℕ = c.args.text.now in
    let at : ℕ = c.args.at + 1 in
    let none = refused c.at.result NoToken c.args.at (c.args.at + 0) c.at.ensures (omega arith) in
    elim c.then-byte_at-eq48.branch [
      | then-byte_at-eq48-via-then-byte_at-eq48 w ↦ simp (first_is t at c.byte_at.ensures w.if-byte_at-eq48.true) none
      | then-byte_at-eq48-via-else-byte_at-eq48+then-is_misfit w ↦
          simp (first_not t at c.byte_at.ensures w.if-byte_at-eq48.false, sym w.is_misfit.ensures ∙ w.if-is_misfit.true) none
    ]

pub returns-then-run-gt-LARGEST_NEGATIVE : goal.returns-then-run-gt-LARGEST_NEGATIVE
unfolding below_zero
returns-then-run-gt-LARGEST_NEGATIVE c =
    let t : List ℕ = c.args.text.now in
    let run = c.digit_run-run.ensures in
    let over = over_limit t _ _ _ _ largest_negative run.end run.value (omega arith) c.if-run-gt-LARGEST_NEGATIVE.true in
    simp (first_not t (c.args.at + 1) c.byte_at.ensures c.if-byte_at-eq48.false, sym c.is_misfit.ensures ∙ c.if-is_misfit.false, over)
    (refused _ OutOfRange _ _ c.at-then-run-gt-LARGEST_NEGATIVE.ensures (omega arith))

pub returns : goal.returns
unfolding below_zero
returns c =
    let t : List ℕ = c.args.text.now in
    let run = c.digit_run-run.ensures in
    let in_range = in_limit t _ _ _ _ largest_negative run.end run.value (omega arith) c.if-run-gt-LARGEST_NEGATIVE.false in
    simp (first_not t (c.args.at + 1) c.byte_at.ensures c.if-byte_at-eq48.false, sym c.is_misfit.ensures ∙ c.if-is_misfit.false, in_range)
    (token negative _ _ (omega (arith, run.end)))
