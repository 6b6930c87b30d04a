-- The first number, and the others behind points; or a hyphen.
use Rattle.std.proofs.Common.{arith}
use Rattle.buffer.proofs.Writing.{wrote_as}
use Rattle.card_line.proofs.Sizes.{dotted_split, dotted_none, wrote_then}
use Rattle.card_line.proofs.write_dotted.Goals as goal

pub returns-in_default-clause-bytes : goal.returns-in_default-clause-bytes
returns-in_default-clause-bytes c = wrote_as (dotted_none c.args.numbers.now c.in_default.ensures.cases) c.put.ensures

pub returns-clause-bytes : goal.returns-clause-bytes
returns-clause-bytes c =
    let p = c.write_number-next.ensures in
    wrote_as (dotted_split c.args.numbers.now c.in-Some.first.now c.in-Some.others.now c.in-Some.ensures.cases.0)
    (wrote_then p.bytes (omega (arith, p.short)) c.write_pointed.ensures.bytes)
