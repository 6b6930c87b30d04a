-- Behind the digits that were read stands the rest of the number.
-- Assumes nothing.
use Rattle.std.proofs.Common.{◌≡◌, ◌-◌, ◌<◌, ◌^◌}
use Rattle.hint_form.specs.Hint.{number_at, number_after}
use Rattle.hint_form.proofs.number_at.Given as goal

abbrev pub invariant-loop-next : goal.invariant-loop-next
invariant-loop-next l = (number_after (l.next-end - l.next) l.value l.hint l.next ≡ number_at l.hint l.i) × (l.value < 10 ^ (l.next - l.i))
