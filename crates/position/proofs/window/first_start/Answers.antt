-- The place where the loop ends is the first that is not inside.
use Rattle.std.proofs.Common.{sym, ◌∙◌, arith}
use Rattle.position.proofs.WindowLaws.{first_outside, all_inside}
use Rattle.position.proofs.window.first_start.Goals as goal

pub returns-then-not-is_inside-clause-is : goal.returns-then-not-is_inside-clause-is
returns-then-not-is_inside-clause-is c =
    first_outside c.args.text.now c.args.k c.loop-i.i c.loop-i.invariant (omega arith) (omega arith) (sym c.is_inside.ensures ∙ c.if-not-is_inside.true)

pub returns-clause-is : goal.returns-clause-is
returns-clause-is c = all_inside c.args.text.now c.args.k (λ j low high. c.loop-i.invariant j low (omega arith))
