-- Class, access and status, one behind another.
use Rattle.std.proofs.Common.{ℕ, ap, arith}
use Rattle.buffer.proofs.Writing.{wrote_as}
use Rattle.card_line.proofs.Sizes.{wrote_then}
use Rattle.card_line.specs.Line.{attribute_fields, field, tab, line_end}
use Rattle.card_line.proofs.Record.write_attributes.Goals as goal

pub returns-clause-bytes : goal.returns-clause-bytes
unfolding attribute_fields
returns-clause-bytes c =
    let p = c.write_field-next in
    let q = c.write_field-next-2 in
    wrote_then (wrote_as (ap (λ (n : ℕ). field n tab) c.class.ensures) p.ensures.bytes) (omega (arith, p.ensures.short))
    (wrote_then (wrote_as (ap (λ (n : ℕ). field n tab) c.access.ensures) q.ensures.bytes) (omega (arith, p.ensures.short, q.ensures.short, p.auto.out))
    (wrote_as (ap (λ (n : ℕ). field n line_end) c.status.ensures) c.write_field.ensures.bytes))
