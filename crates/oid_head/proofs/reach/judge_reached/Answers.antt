-- `judge_reached` judges each definition in turn; what it has passed is reached.
-- Assumes nothing.
use Rattle.std.proofs.Common.{rules, refl, sym, [], ℕ, ◌<◌, ◌≡◌, false, arith}
use Rattle.rule.proofs.Each.{not_broken, judged_at}
use Rattle.oid_head.specs.Oid.{named_in}
use Rattle.oid_head.specs.Unreached.{unreached}
use Rattle.oid_head.proofs.reach.judge_reached.Goals as goal

pub judge_each-requires : goal.judge_each-requires
judge_each-requires c k l h kept =
    let rule = unreached (named_in [] c.args.values.now c.args.definitions.now) in
    let before : (i : ℕ) → i < k → rule.breach i ≡ false = λ i m. not_broken rule i (search (rules, kept i (omega arith) m)) in
    search (rules, before)

pub returns : goal.returns
unfolding unreached
returns c =
    judged_at (unreached (named_in [] c.args.values.now c.args.definitions.now)) _ _ _ c.judge_each.ensures refl (sym c.count.ensures) (λ k l h j says. search rules)
