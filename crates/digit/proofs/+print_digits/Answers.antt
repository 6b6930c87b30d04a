-- `print_digits` is right: the digits of n are the quotient's, which the call of itself writes, and then the remainder's.
-- Assumes nothing.
use Rattle.std.proofs.Common.{◌/◌, ◌≤◌, ◌≡◌, ℕ, List, [], ◌∷◌, ◌++◌, length, sym, ap, ◌∙◌, arith}
use Rattle.digit.specs.Digits.{digits}
use Rattle.buffer.proofs.Writing.{wrote_more, wrote_as}
use Rattle.digit.proofs.DigitLaws.{quotient_less, digits_last, digits_step, digits_longer}
use Rattle.digit.proofs.+print_digits.Goals as goal

pub put-requires : goal.put-requires
put-requires t c =
    let a = c.args in
    let one = ap length (digits_last a.base a.n c.if-n-base.true) in
    omega (arith, c.requires.room)

pub returns-then-n-base : goal.returns-then-n-base
returns-then-n-base t c =
    let last = digits_last c.args.base c.args.n c.if-n-base.true in
    wrote_as (ap (λ (b : ℕ). b ∷ []) c.glyph_of.ensures ∙ sym last) c.put.ensures

pub print_digits-next-requires : goal.print_digits-next-requires
print_digits-next-requires t c =
    let a = c.args in
    let large : a.base ≤ a.n = c.if-n-base.false in
    let less = quotient_less a.base a.n c.requires.least large in
    let longer = digits_longer a.base a.n c.requires.least large in
    (omega arith, (c.requires.least, (c.requires.most, omega (arith, c.requires.room))))

pub put-requires-2 : goal.put-requires-2
put-requires-2 t c =
    let a = c.args in
    let longer = digits_longer a.base a.n c.requires.least c.if-n-base.false in
    let next = c.print_digits-next.ensures.next_is in
    let kept = c.print_digits-next.auto.out in
    omega (arith, c.requires.room)

pub returns : goal.returns
returns t c =
    let a = c.args in
    let large : a.base ≤ a.n = c.if-n-base.false in
    let longer = digits_longer a.base a.n c.requires.least large in
    let rest : List ℕ = digits a.base (a.n / a.base) in
    let all : rest ++ (c.glyph_of-2.result ∷ []) ≡ digits a.base a.n =
    ap (λ (b : ℕ). rest ++ (b ∷ [])) c.glyph_of-2.ensures ∙ sym (digits_step a.base a.n c.requires.least large) in
    wrote_as all (wrote_more (omega (arith, c.requires.room)) c.print_digits-next.ensures c.put-2.ensures)
