-- `parent_key` is right: the run less one number is the OID less its last.
-- Assumes nothing.
use mathlib.Core.Path.{ap, ◌∙◌}
use Rattle.chain.specs.Key.{list_key}
use Rattle.object_tree.proofs.Parents.{run_less}
use borrow.Author.Rules.{rules}
use Rattle.object_tree.proofs.parent.parent_key.Statement.{statement}
use Rattle.object_tree.proofs.parent.parent_key.Tie as tie

run-of-requires : tie.Need-run_of-run-requires
run-of-requires c κs = search rules

less-requires : tie.Need-less-count-requires
less-requires c κs = search rules

run-key-requires : tie.Need-run_key-requires
run-key-requires c κs = search rules

returns : tie.Need-returns
returns c =
    let run = c.run_of-run.ensures in
    c.run_key.ensures ∙ ap list_key (run_less _ _ _ _ _ run.inside run.held c.less-count.ensures)

pub parent_key_spec : {M : Type 1} → statement M
parent_key_spec = tie.close (tie.spec
    run-of-requires
    less-requires
    run-key-requires
    returns)
