-- `judge_lengths` is right: 14 is asked where 13 is kept.
-- Assumes nothing.
use Rattle.std.proofs.Common.{rules, sym, ◌∙◌, ◌≡◌}
use Rattle.rule.proofs.Judged.{kept_next, broken_first, judge_alone}
use Rattle.oid_tree.proofs.room.judge_lengths.Goals as goal

pub returns-in_err-judge_long : goal.returns-in_err-judge_long
returns-in_err-judge_long c =
    let same : c.from_residual.result ≡ c.judge_long.result = search rules in
    same ∙ broken_first _ _ _ c.judge_long.ensures _ c.in_err-judge_long.was

pub returns : goal.returns
returns c = c.judge_room.ensures ∙ judge_alone _ ∙ sym (kept_next _ _ _ c.judge_long.ensures c.in_ok-judge_long.was)
