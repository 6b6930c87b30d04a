-- Below zero the minus comes first and then the magnitude, which leaves room in 64 bytes.
-- Assumes nothing.
use Rattle.std.proofs.Common.{ℕ, ◌≡◌, ◌∷◌, ap, sym, ◌∙◌, arith}
use Prim.Native.Char.{code}
use lib.IntN.{ℤ, pos, nat_abs}
use lib.Signed.{lt_z}
use mir.Facts.{to_z-of_z}
use Rattle.hint_integer.specs.Signed.{magnitude}
use Rattle.buffer.proofs.Writing.{wrote_more, wrote_as}
use Rattle.hint_integer.proofs.SignedLaws.{magnitude_small, magnitude_size, signed_negative, signed_other}
use Rattle.hint_integer.proofs.print_signed.Goals as goal

pub print_magnitude-requires-clause-room : goal.print_magnitude-requires-clause-room
print_magnitude-requires-clause-room c =
    let a = c.args in
    let is : c.magnitude_of-n.result ≡ nat_abs a.value = c.magnitude_of-n.ensures ∙ ap nat_abs (to_z-of_z c.ranges.value) in
    let short = magnitude_size a.form (nat_abs a.value) c.requires.usable (magnitude_small a.value c.requires.range) in
    rw is (omega (arith, c.requires.room, c.put-at.ensures.next_is, c.put-at.auto.out))

pub returns-then-value-lt0 : goal.returns-then-value-lt0
returns-then-value-lt0 c =
    let a = c.args in
    let same = to_z-of_z c.ranges.value in
    let is : c.magnitude_of-n.result ≡ nat_abs a.value = c.magnitude_of-n.ensures ∙ ap nat_abs same in
    let below = ap (λ (z : ℤ). lt_z z (pos 0)) (sym same) ∙ c.if-value-lt0.true in
    let all = ap (λ (n : ℕ). code "-" ∷ magnitude a.form n) is ∙ sym (signed_negative a.form a.value below) in
    wrote_as all (wrote_more (omega (arith, c.requires.room)) c.put-at.ensures c.print_magnitude.ensures)

pub print_magnitude-requires-2-clause-room : goal.print_magnitude-requires-2-clause-room
print_magnitude-requires-2-clause-room c =
    let a = c.args in
    let is : c.magnitude_of-n.result ≡ nat_abs a.value = c.magnitude_of-n.ensures ∙ ap nat_abs (to_z-of_z c.ranges.value) in
    let short = magnitude_size a.form (nat_abs a.value) c.requires.usable (magnitude_small a.value c.requires.range) in
    rw is (omega (arith, c.requires.room))

pub returns : goal.returns
returns c =
    let a = c.args in
    let same = to_z-of_z c.ranges.value in
    let is : c.magnitude_of-n.result ≡ nat_abs a.value = c.magnitude_of-n.ensures ∙ ap nat_abs same in
    let other = ap (λ (z : ℤ). lt_z z (pos 0)) (sym same) ∙ c.if-value-lt0.false in
    wrote_as (ap (magnitude a.form) is ∙ sym (signed_other a.form a.value other)) c.print_magnitude-2.ensures
