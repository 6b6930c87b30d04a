-- One item more is cut off at each turn.
-- Assumes nothing.
use Rattle.std.proofs.Common.{ℕ, ◌+◌, ◌<◌, ◌≡◌, sym, ap, ◌∙◌, arith}
use Rattle.character.specs.Cut.{stuck_at}
use Rattle.character.proofs.CutLaws.{from, from_start, from_end, from_stuck, from_item, stuck_before}
use Rattle.character.proofs.first_stuck.Goals as goal

pub loop-i-init : goal.loop-i-init
loop-i-init g c = ap stuck_at (from_start g.sizes c.args.end)

pub overflow_add-i : goal.overflow_add-i
overflow_add-i g c =
    let is = c.requires.1.1.0 c.loop-i.i c.size-step.result c.loop-i-test.true c.size-step.ensures in
    omega (arith, c.requires.1.1.1 c.loop-i.i c.loop-i-test.true)

pub returns-then-step-eq0 : goal.returns-then-step-eq0
unfolding Rattle.character.specs.Cut.stuck_at
returns-then-step-eq0 g c =
    let is = c.requires.1.1.0 c.loop-i.i c.size-step.result c.loop-i-test.true c.size-step.ensures in
    sym (ap stuck_at (from_stuck g.sizes c.args.end c.loop-i.i c.loop-i-test.true (sym is ∙ c.if-step-eq0.true))) ∙ c.loop-i.invariant

pub loop-i-preserved : goal.loop-i-preserved
loop-i-preserved g c =
    let i = c.loop-i.i in
    let is : c.size-step.result ≡ g.sizes i = c.requires.1.1.0 i c.size-step.result c.loop-i-test.true c.size-step.ensures in
    let some : 0 < g.sizes i = omega (arith, c.if-step-eq0.false) in
    ap (λ (k : ℕ). stuck_at (from g.sizes c.args.end (i + k))) is
    ∙ sym (stuck_before i (from g.sizes c.args.end (i + g.sizes i)))
    ∙ sym (ap stuck_at (from_item g.sizes c.args.end i c.loop-i-test.true some))
    ∙ c.loop-i.invariant

pub returns : goal.returns
unfolding Rattle.character.specs.Cut.stuck_at
returns g c = sym (ap stuck_at (from_end g.sizes c.args.end c.loop-i.i c.loop-i-test.false)) ∙ c.loop-i.invariant
