-- `print_pointed` is right: it writes what stands before the last digit, by a call of itself, and then that digit.
-- Assumes nothing.
use Rattle.std.proofs.Common.{◌-◌, ◌/◌, ◌≤◌, ◌≡◌, ℕ, List, [], ◌∷◌, ◌++◌, length, length-append, sym, ap, ◌∙◌, arith}
use Prim.Native.Char.{code}
use Rattle.digit.specs.Digits.{digits, pointed}
use Rattle.buffer.proofs.Writing.{wrote_more, wrote_as}
use Rattle.digit.proofs.DigitLaws.{pointed_none, pointed_step, pointed_longer}
use Rattle.digit.proofs.+print_pointed.Goals as goal

pub print_digits-next-requires-clause-room : goal.print_digits-next-requires-clause-room
print_digits-next-requires-clause-room t c =
    let a = c.args in
    let none = ap length (pointed_none a.places a.n c.if-places-eq0.true) in
    let more = length-append (digits 10 a.n) (code "." ∷ []) in
    omega (arith, c.requires)

pub put-requires : goal.put-requires
put-requires t c =
    let a = c.args in
    let none = ap length (pointed_none a.places a.n c.if-places-eq0.true) in
    let more = length-append (digits 10 a.n) (code "." ∷ []) in
    let next = c.print_digits-next.ensures.next_is in
    let kept = c.print_digits-next.auto.out in
    omega (arith, c.requires)

pub returns-then-places-eq0 : goal.returns-then-places-eq0
returns-then-places-eq0 t c =
    let a = c.args in
    let none = pointed_none a.places a.n c.if-places-eq0.true in
    let long = ap length none in
    let more = length-append (digits 10 a.n) (code "." ∷ []) in
    wrote_as (sym none) (wrote_more (omega (arith, c.requires)) c.print_digits-next.ensures c.put.ensures)

pub print_pointed-next-requires : goal.print_pointed-next-requires
print_pointed-next-requires t c =
    let a = c.args in
    let some : 1 ≤ a.places = omega (arith, c.if-places-eq0.false) in
    let longer = pointed_longer a.places a.n some in
    (omega (arith, c.decreases), omega (arith, c.requires))

pub put-requires-2 : goal.put-requires-2
put-requires-2 t c =
    let a = c.args in
    let some : 1 ≤ a.places = omega (arith, c.if-places-eq0.false) in
    let longer = pointed_longer a.places a.n some in
    let next = c.print_pointed-next.ensures.next_is in
    let kept = c.print_pointed-next.auto.out in
    omega (arith, c.requires)

pub returns : goal.returns
returns t c =
    let a = c.args in
    let some : 1 ≤ a.places = omega (arith, c.if-places-eq0.false) in
    let longer = pointed_longer a.places a.n some in
    let front : List ℕ = pointed (a.places - 1) (a.n / 10) in
    let all : front ++ (c.glyph_of.result ∷ []) ≡ pointed a.places a.n =
    ap (λ (b : ℕ). front ++ (b ∷ [])) c.glyph_of.ensures ∙ sym (pointed_step a.places a.n some) in
    wrote_as all (wrote_more (omega (arith, c.requires)) c.print_pointed-next.ensures c.put-2.ensures)
