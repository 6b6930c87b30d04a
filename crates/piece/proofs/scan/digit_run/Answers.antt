-- `digit_run` is right because the bytes passed are digits, and the value is cut off at each of them as the definition cuts it
-- off at the end.
-- Assumes nothing.
use Rattle.std.proofs.Common.{rules, arith, get_or, ◌+◌, ◌∙◌}
use Rattle.lexicon.specs.Byte.{digit, digit_byte}
use Rattle.lexicon.proofs.Bytes.{classed_not}
use Rattle.piece.proofs.Decimal.{capped_none, capped_more}
use Rattle.piece.proofs.Span.{reached_more, reached_stop, reached_end}
use Rattle.piece.proofs.scan.digit_run.Goals as goal

pub loop-i-init : goal.loop-i-init
loop-i-init c = ((omega arith, omega arith, omega arith), capped_none c.args.text.now c.args.at)

pub returns-then-class_of-ne-DIGIT-clause-end : goal.returns-then-class_of-ne-DIGIT-clause-end
returns-then-class_of-ne-DIGIT-clause-end c =
    reached_stop digit_byte c.args.text.now c.args.at c.loop-i.i c.loop-i.invariant.0 (omega arith)
    (classed_not digit _ (get_or c.args.text.now (c.loop-i.i + 1) 0) (λ e. c.if-class_of-ne-DIGIT.true (c.class_of.ensures ∙ e)))

pub loop-i-preserved : goal.loop-i-preserved
loop-i-preserved c = (
  reached_more digit_byte c.args.text.now c.args.at c.loop-i.i c.loop-i.invariant.0 (omega arith) (search rules),
  capped_more c.args.text.now c.args.at c.loop-i.i c.loop-i.invariant.0.0 (omega arith) c.loop-i.invariant.1 c.more-value.ensures,
)

pub returns-clause-end : goal.returns-clause-end
returns-clause-end c = omega (arith, reached_end digit_byte c.args.text.now c.args.at c.loop-i.i c.loop-i.invariant.0 (omega arith))
