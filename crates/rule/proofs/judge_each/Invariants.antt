-- The indices before that at which the loop is were kept.
-- Assumes nothing.
use Rattle.rule.specs.Each.{KeptBefore}
use Rattle.rule.proofs.judge_each.Given as goal

abbrev pub invariant-loop-k : goal.invariant-loop-k
invariant-loop-k g l = KeptBefore (goal.F-post g l.fn.judge_at) l.fn.from l.k
