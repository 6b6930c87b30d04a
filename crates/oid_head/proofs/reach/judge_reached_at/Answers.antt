-- What `judge_reached_at` says is what the rule says of the definition.
-- Assumes nothing.
use Rattle.std.proofs.Common.{sym, ◌∙◌, []}
use Rattle.rule.proofs.Each.{broken_there}
use Rattle.oid_head.specs.Oid.{named_in}
use Rattle.oid_head.specs.Unreached.{unreached}
use Rattle.oid_head.proofs.reach.judge_reached_at.Goals as goal

pub returns-then-is_unreached : goal.returns-then-is_unreached
unfolding unreached
returns-then-is_unreached c =
    broken_there (unreached (named_in [] c.args.values.now c.args.definitions.now)) c.args.k.0 (sym c.is_unreached.ensures ∙ c.if-is_unreached.true) _ c.finding_at.ensures
