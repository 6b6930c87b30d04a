-- `read_natural` is right: its tests are those of the definition. Assumes nothing.
use Rattle.std.proofs.Common.{sym, ◌∙◌}
use Rattle.words.proofs.Digits.{all_are, others_are_not, small_digits, large_digits}
use Rattle.words.proofs.number.read_natural.Goals as goal

pub value-n-requires : goal.value-n-requires
value-n-requires c = all_are _ (sym c.are_digits.ensures ∙ c.if-not-are_digits.false)

pub returns-then-not-are_digits : goal.returns-then-not-are_digits
returns-then-not-are_digits c = sym (others_are_not _ (sym c.are_digits.ensures ∙ c.if-not-are_digits.true))

pub returns-then-n-lt-LIMIT : goal.returns-then-n-lt-LIMIT
returns-then-n-lt-LIMIT c =
    sym (small_digits _ _ (sym c.are_digits.ensures ∙ c.if-not-are_digits.false) c.value-n.ensures c.if-n-lt-LIMIT.true)

pub returns-else-n-lt-LIMIT : goal.returns-else-n-lt-LIMIT
returns-else-n-lt-LIMIT c =
    sym (large_digits _ _ (sym c.are_digits.ensures ∙ c.if-not-are_digits.false) c.value-n.ensures c.if-n-lt-LIMIT.false)
