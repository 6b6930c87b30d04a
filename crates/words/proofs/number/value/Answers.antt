-- `value` is right: one digit more makes the same value, up to the limit. Assumes nothing.
use Rattle.std.proofs.Common.{◌∙◌, arith}
use Rattle.words.proofs.Digits.{first_digit, rest_digits, one_more, value_ended}
use Rattle.words.proofs.number.value.Goals as goal

pub more-n-requires-clause-digit : goal.more-n-requires-clause-digit
more-n-requires-clause-digit c = first_digit c.args.digits.now c.loop-digit.digit-index (omega arith) c.loop-digit.invariant.digits

pub loop-digit-preserved : goal.loop-digit-preserved
loop-digit-preserved c =
    let digits = c.args.digits.now in
    let i = c.loop-digit.digit-index in
    record {
      limited = omega (arith, c.more-n.ensures);
      digits = rest_digits digits i (omega arith) c.loop-digit.invariant.digits;
      same = rw c.more-n.ensures (one_more c.loop-digit.n digits i (omega arith) ∙ c.loop-digit.invariant.same);
    }

pub returns : goal.returns
returns c =
    let digits = c.args.digits.now in
    omega (arith, c.loop-digit.invariant.same, value_ended c.loop-digit.n digits c.loop-digit.digit-index (omega arith) (omega arith))
