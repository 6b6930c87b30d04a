-- A number below ten is its one digit.
use Rattle.std.proofs.Common.{ℕ, [], ◌∷◌, length, sym, ap, ◌∙◌, arith}
use Rattle.buffer.proofs.Writing.{wrote_as}
use Rattle.digit.proofs.DigitLaws.{digits_last}
use Rattle.card_line.proofs.write_decimal.Goals as goal

pub put-requires : goal.put-requires
put-requires c = omega (arith, ap length (digits_last 10 c.args.n c.if-n-lt10.true))

pub returns-then-n-lt10 : goal.returns-then-n-lt10
returns-then-n-lt10 c =
    wrote_as (ap (λ (b : ℕ). b ∷ []) c.glyph_of.ensures ∙ sym (digits_last 10 c.args.n c.if-n-lt10.true)) c.put.ensures
