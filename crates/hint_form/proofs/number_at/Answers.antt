-- A digit makes the number ten times as large; any other byte ends it.
-- Assumes nothing.
use Rattle.std.proofs.Common.{◌+◌, ◌-◌, ◌≡◌, true, false, sym, ap, ◌∙◌, arith, lit<}
use Rattle.std.proofs.Math.Nat.{add-sub_cancel_left, sub_self}
use Rattle.buffer.specs.Buffer.{byte_at}
use Rattle.hint_form.specs.Hint.{digit, number_at, number_after}
use Rattle.hint_form.proofs.HintLaws.{digit_low, number_stop, number_more, ten_more}
use Rattle.hint_form.proofs.number_at.Goals as goal

pub loop-next-init : goal.loop-next-init
unfolding Rattle.hint_form.specs.Hint.number_at
loop-next-init c = (rw (add-sub_cancel_left c.args.i 3), rw (sub_self c.args.i) (lit< tt))

pub returns-then-not-is_digit : goal.returns-then-not-is_digit
returns-then-not-is_digit c =
    let h = c.args.hint.now in
    let i = c.loop-next.next in
    let none : digit (byte_at h i) ≡ false = ap digit (sym c.byte_at-b.ensures) ∙ sym c.is_digit.ensures ∙ c.if-not-is_digit.true in
    sym (number_stop (c.args.i + 3 - i) c.loop-next.value h i none) ∙ c.loop-next.invariant.0

pub overflow_sub-value : goal.overflow_sub-value
overflow_sub-value c = digit_low _ (sym c.is_digit.ensures ∙ c.if-not-is_digit.false)

pub loop-next-preserved : goal.loop-next-preserved
loop-next-preserved c =
    let h = c.args.hint.now in
    let i = c.loop-next.next in
    let value = c.loop-next.value in
    let one : digit c.byte_at-b.result ≡ true = sym c.is_digit.ensures ∙ c.if-not-is_digit.false in
    let more = number_more (c.args.i + 3 - i) value h i (omega arith) (ap digit (sym c.byte_at-b.ensures) ∙ one) in
    let left : c.args.i + 3 - (i + 1) ≡ c.args.i + 3 - i - 1 = omega arith in
    let read : i + 1 - c.args.i ≡ i - c.args.i + 1 = omega arith in (
      rw (left, c.byte_at-b.ensures) (sym more ∙ c.loop-next.invariant.0),
      rw read (ten_more (i - c.args.i) value c.byte_at-b.result one c.loop-next.invariant.1),
    )

pub returns : goal.returns
unfolding Rattle.hint_form.specs.Hint.number_after
returns c =
    let value = c.loop-next.value in
    let end : c.args.i + 3 ≡ c.loop-next.next = omega arith in
    let none : c.args.i + 3 - c.loop-next.next ≡ 0 = omega arith in
    let last : number_after 0 value c.args.hint.now c.loop-next.next ≡ number_at c.args.hint.now c.args.i =
    rw none at c.loop-next.invariant.0 in
    rw end last
