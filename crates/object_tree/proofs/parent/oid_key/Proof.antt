-- `oid_key` is right: the run holds the OID.
-- Assumes nothing.
use mathlib.Core.Path.{ap, ◌∙◌}
use Rattle.chain.specs.Key.{list_key}
use borrow.Author.Rules.{rules}
use Rattle.object_tree.proofs.parent.oid_key.Statement.{statement}
use Rattle.object_tree.proofs.parent.oid_key.Tie as tie

run-of-requires : tie.Need-run_of-requires
run-of-requires c κs = search rules

run-key-requires : tie.Need-run_key-requires
run-key-requires c κs = search rules

returns : tie.Need-returns
returns c = c.run_key.ensures ∙ ap list_key c.run_of.ensures.held

pub oid_key_spec : {M : Type 1} → statement M
oid_key_spec = tie.close (tie.spec
    run-of-requires
    run-key-requires
    returns)
