-- `is_parent` is right, test by test.
-- Assumes nothing.
use Rattle.oid_run.specs.Run.{is_below}
use mathlib.Core.Path.{sym, ◌∙◌}
use Rattle.object_tree.proofs.Parents.{no_child, not_parent, parent_below, below_same}
use borrow.Author.Rules.{rules}
use Rattle.object_tree.proofs.parent.is_parent.Statement.{statement}
use Rattle.object_tree.proofs.parent.is_parent.Tie as tie

is-object-requires : tie.Need-is_object-requires
is-object-requires c κs = search rules

returns : tie.Need-returns-then-not-is_object
returns c = not_parent _ _ _ (sym c.is_object.ensures ∙ c.if-not-is_object.true)

is-object-requires-2 : tie.Need-is_object-requires-2
is-object-requires-2 c κs = search rules

returns-2 : tie.Need-returns-then-not-is_object-2
returns-2 c = sym (no_child _ _ _ (sym c.is_object-2.ensures ∙ c.if-not-is_object-2.true))

run-of-requires : tie.Need-run_of-requires
run-of-requires c κs = search rules

run-of-requires-2 : tie.Need-run_of-requires-2
run-of-requires-2 c κs = search rules

is-below-requires : tie.Need-is_below-requires
is-below-requires c κs = search rules

returns-3 : tie.Need-returns
returns-3 c =
    let child = c in
    let parent = child in
    let s = parent in
    c.is_below.ensures
    ∙ below_same c.run_of.ensures.held c.run_of-2.ensures.held
    ∙ parent_below s.args.numbers.now s.args.parent s.args.child (sym parent.is_object.ensures ∙ child.if-not-is_object.false)
    (sym child.is_object-2.ensures ∙ c.if-not-is_object-2.false)

pub is_parent_spec : {M : Type 1} → statement M
is_parent_spec =
    tie.close
    (tie.spec
    is-object-requires
    returns
    is-object-requires-2
    returns-2
    run-of-requires
    run-of-requires-2
    is-below-requires
    returns-3)
