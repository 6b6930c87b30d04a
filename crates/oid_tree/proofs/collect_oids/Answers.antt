-- `collect_oids` is right: each rule is asked where those before it are kept, and the OIDs are written where all are.
-- Assumes nothing.
use Rattle.std.proofs.Common.{rules, sym, ◌∙◌, ◌≡◌, arith}
use Rattle.oid_tree.proofs.Collecting.{reached_said, reached_kept, measured_reach, measured_placed, measured_room, lengths_said, unreached_left, long_left, all_left}
use Rattle.oid_tree.proofs.collect_oids.Goals as goal

pub returns-in_err-judge_reached : goal.returns-in_err-judge_reached
returns-in_err-judge_reached c =
    let same : c.from_residual.result ≡ c.judge_reached.result = search rules in
    unreached_left _ _ _ _ (same ∙ reached_said _ _ _ c.judge_reached.ensures) _ (same ∙ c.in_err-judge_reached.was) _

pub measure-requires : goal.measure-requires
measure-requires c = record {
  short = c.requires.tokens;
  few = c.requires.definitions;
  reach = reached_kept _ _ _ (sym (reached_said _ _ _ c.judge_reached.ensures) ∙ c.in_ok-judge_reached.was);
}

pub returns-in_err-judge_lengths : goal.returns-in_err-judge_lengths
returns-in_err-judge_lengths c =
    let same : c.from_residual-in_err-judge_lengths.result ≡ c.judge_lengths.result = search rules in
    long_left _ _ _ _ (reached_said _ _ _ c.judge_reached.ensures) c.in_ok-judge_reached.was _ c.measure.ensures _
    (same ∙ lengths_said _ _ _ _ c.measure.ensures c.judge_lengths.ensures) _ (same ∙ c.in_err-judge_lengths.was) _

pub write_oids-requires : goal.write_oids-requires
write_oids-requires c = record {
  reach = measured_reach _ _ _ _ c.measure.ensures (reached_kept _ _ _ (sym (reached_said _ _ _ c.judge_reached.ensures) ∙ c.in_ok-judge_reached.was));
  placed = measured_placed _ _ _ _ c.measure.ensures;
  room = omega (arith, measured_room _ _ _ _ c.measure.ensures (sym (lengths_said _ _ _ _ c.measure.ensures c.judge_lengths.ensures) ∙ c.in_ok-judge_lengths.was), c.requires.numbers);
}

pub returns : goal.returns
returns c =
    all_left _ _ _ _ (reached_said _ _ _ c.judge_reached.ensures) c.in_ok-judge_reached.was _ c.measure.ensures _
    (sym c.in_ok-judge_lengths.was ∙ lengths_said _ _ _ _ c.measure.ensures c.judge_lengths.ensures) _ _ c.write_oids.auto.numbers c.write_oids.ensures
