-- `copy` is right: at i the first i bytes have been written.
-- Assumes nothing.
use Rattle.std.proofs.Common.{arith, refl, sym, ap, ◌∙◌, ◌+◌, List, ℕ}
use lib.ListN.{set, get_or, length-set}
use Rattle.buffer.proofs.Writing.{written_next, written_none}
use Rattle.buffer.proofs.copy.Goals as goal

pub loop-i-init : goal.loop-i-init
loop-i-init c = (sym (written_none _ _), refl)

pub loop-i-preserved : goal.loop-i-preserved
loop-i-preserved c =
    let a = c.args in
    let i : ℕ = c.loop-i.i in (
      ap (λ (l : List ℕ). set l (a.at + i) (get_or a.s.now i 0)) c.loop-i.invariant.0
          ∙ written_next a.out.now a.at a.s.now i c.requires (omega (arith, c.loop-i-test.true)),
      simp length-set c.loop-i.invariant.1,
    )
