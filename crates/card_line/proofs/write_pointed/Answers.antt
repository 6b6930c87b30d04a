-- One number more stands behind a point.
use Rattle.std.proofs.Common.{refl, ◌∙◌, arith}
use Rattle.buffer.proofs.Writing.{wrote_as, wrote_none}
use Rattle.card_line.proofs.Sizes.{pointed_next, pointed_none, wrote_then}
use Rattle.card_line.proofs.write_pointed.Goals as goal

pub loop-n-init : goal.loop-n-init
loop-n-init c = (wrote_as pointed_none (wrote_none c.args.out.now c.args.at), omega arith, refl)

pub loop-n-preserved : goal.loop-n-preserved
loop-n-preserved c =
    let so_far = c.loop-n.invariant in
    let p = c.put-next in
    let q = c.write_number-next in (
      wrote_as (pointed_next c.args.numbers.now c.loop-n.n-index c.loop-n-test.true)
          (wrote_then so_far.0 (omega (arith, so_far.1)) (wrote_then p.ensures (omega (arith, so_far.1, so_far.2, p.ensures.next_is)) q.ensures.bytes)),
      omega (arith, so_far.1, p.ensures.next_is, q.ensures.short),
      q.auto.out ∙ p.auto.out ∙ so_far.2,
    )
