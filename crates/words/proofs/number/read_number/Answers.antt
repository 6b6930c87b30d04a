-- `read_number` is right: the minus and the digits behind it decide. Assumes nothing.
use Rattle.std.proofs.Common.{sym, ap, ◌∙◌}
use Rattle.words.specs.Decimal.{natural_of, above, below}
use Rattle.words.proofs.Digits.{always_small, minus_first, digits_first}
use Rattle.words.proofs.number.read_number.Goals as goal

pub below_zero-requires : goal.below_zero-requires
below_zero-requires c = rw c.read_natural.ensures (always_small _)

pub from_zero_on-requires : goal.from_zero_on-requires
from_zero_on-requires c = rw c.read_natural-in-None.ensures (always_small _)

pub returns-in-Some : goal.returns-in-Some
returns-in-Some c =
    let cases = c.in-Some.ensures.cases in
    c.below_zero.ensures
    ∙ ap below (c.read_natural.ensures ∙ ap natural_of cases.1)
    ∙ sym (minus_first c.args.word.now cases.0)

pub returns-in-None : goal.returns-in-None
returns-in-None c =
    c.from_zero_on.ensures ∙ ap above c.read_natural-in-None.ensures ∙ sym (digits_first c.args.word.now c.in-None.ensures.cases)
