-- What `judge_long_at` says is what the rule says of the definition.
-- Assumes nothing.
use Rattle.std.proofs.Common.{sym, ◌∙◌}
use borrow.Author.Tests.{lt-ltb, le-ltb}
use Rattle.rule.proofs.Each.{broken_there, kept_there}
use Rattle.module_table.specs.Definition.{definitions_in}
use Rattle.oid_tree.specs.Refusal.{long_by_count}
use Rattle.oid_tree.proofs.Counted.{long_test}
use Rattle.oid_tree.proofs.room.judge_long_at.Goals as goal

pub returns-then-own-gt-LONGEST_OID : goal.returns-then-own-gt-LONGEST_OID
unfolding long_by_count
returns-then-own-gt-LONGEST_OID c =
    broken_there (long_by_count (definitions_in c.args.definitions.now)) c.args.k.0
    (sym (long_test (definitions_in c.args.definitions.now) c.args.k.0 _ c.definition_at-own.ensures) ∙ lt-ltb _ _ c.if-own-gt-LONGEST_OID.true) _ c.finding_at.ensures

pub returns : goal.returns
returns c =
    kept_there (long_by_count (definitions_in c.args.definitions.now)) c.args.k.0
    (sym (long_test (definitions_in c.args.definitions.now) c.args.k.0 _ c.definition_at-own.ensures) ∙ le-ltb _ _ c.if-own-gt-LONGEST_OID.false)
