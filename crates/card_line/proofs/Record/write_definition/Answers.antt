-- Kind, name and OID, one behind another; a name is no longer than it may be.
use Rattle.std.proofs.Common.{ℕ, ◌≤◌, length, get_or, drop, ap, arith}
use Rattle.buffer.proofs.Writing.{wrote_as}
use Rattle.lexicon.specs.Word.{longest_name}
use Rattle.card_line.proofs.Sizes.{part_size, wrote_then}
use Rattle.card_line.specs.Line.{definition_fields, field, name_field, oid_field, name, tab}
use Rattle.card_line.proofs.Record.write_definition.Goals as goal

pub returns-clause-bytes : goal.returns-clause-bytes
unfolding definition_fields
returns-clause-bytes c =
    let text = c.args.self.text.now in
    let words = c.args.self.words.now in
    let p = c.write_field-next in
    let q = c.write_name-next in
    let named = ap length c.name.ensures in
    let few : length (name text words) ≤ longest_name = part_size (get_or words 2 0) longest_name (drop (get_or words 1 0) text) in
    wrote_then (wrote_as (ap (λ (n : ℕ). field n tab) c.kind.ensures) p.ensures.bytes) (omega (arith, p.ensures.short))
    (wrote_then (wrote_as (ap name_field c.name.ensures) q.ensures.bytes) (omega (arith, p.ensures.short, p.auto.out, q.ensures.short, named, few))
    (wrote_as (ap oid_field c.oid.ensures) c.write_oid_field.ensures.bytes))
