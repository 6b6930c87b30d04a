-- What is seen of one byte more stands behind the rest.
use Rattle.std.proofs.Common.{refl, add-one, arith, rules}
use Rattle.buffer.proofs.Writing.{wrote_none, wrote_more}
use Rattle.visible.specs.Visible.{visible}
use Rattle.visible.proofs.write_visible.Goals as goal

pub loop-i-init : goal.loop-i-init
unfolding visible
loop-i-init c = (wrote_none c.args.out.now 0, omega arith, refl)

pub loop-i-preserved : goal.loop-i-preserved
unfolding visible
loop-i-preserved c =
    let so_far = c.loop-i.invariant in
    let next = c.write_seen-next.ensures in
    (rw add-one (wrote_more (omega (arith, so_far.0.next_is)) so_far.0 next.bytes), omega (arith, next.short), search rules)
