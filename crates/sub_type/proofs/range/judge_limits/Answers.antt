-- `judge_limits` judges each token of the restriction in turn.
-- Assumes nothing.
use Rattle.std.proofs.Common.{rules, refl, sym, arith, ◌≤◌}
use Rattle.rule.proofs.Each.{judged_at}
use Rattle.sub_type.proofs.Ends.{end_inside}
use Rattle.sub_type.specs.Refusal.{limit_rule}
use Rattle.sub_type.proofs.range.judge_limits.Goals as goal

pub judge_each-requires : goal.judge_each-requires
judge_each-requires c k l h kept =
    let inside : k ≤ 65536 = omega (arith, c.end_in-to.ensures, end_inside c.args.classes.now c.args.span, c.requires) in
    search (rules, inside)

pub returns : goal.returns
unfolding limit_rule
returns c =
    judged_at (limit_rule c.args.classes.now c.args.values.now c.args.limits c.args.span) _ _ _ c.judge_each.ensures refl (sym c.end_in-to.ensures) (λ k l h j says. search rules)
