-- Four bytes, one behind another.
use Rattle.std.proofs.Common.{arith}
use Rattle.buffer.proofs.Writing.{wrote_as, wrote_more}
use Rattle.visible.specs.Visible.{escaped}
use Rattle.visible.proofs.write_escaped.Goals as goal

pub returns : goal.returns
unfolding escaped
returns c =
    let p1 = c.put-next in
    let p2 = c.put-next-2 in
    let p3 = c.put-next-3 in
    wrote_as (simp (c.glyph_of.ensures, c.glyph_of-2.ensures))
    (wrote_more (omega arith) p1.ensures
    (wrote_more (omega (arith, p1.ensures.next_is, p1.auto.out)) p2.ensures
    (wrote_more (omega (arith, p1.ensures.next_is, p1.auto.out, p2.ensures.next_is, p2.auto.out)) p3.ensures c.put.ensures)))
