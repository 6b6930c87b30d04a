-- `numbered` is right: past the last definition there is none, and a number counts from 1.
-- Assumes nothing.
use mathlib.Core.Path.{◌∙◌}
use native.Mathlib.Omega.{arith}
use borrow.Author.Tests.{eq-eqb, ne_eqb}
use Rattle.module_table.proofs.Table.{table_counted, entry_none}
use borrow.Author.Rules.{rules}
use Rattle.object_tree.proofs.words.numbered.Statement.{statement}
use Rattle.object_tree.proofs.words.numbered.Tie as tie

definition-at-requires : tie.Need-definition_at-requires
definition-at-requires c κs = search rules

returns : tie.Need-returns-then-number-eq0
returns c =
    let s = c in
    rw (eq-eqb _ 0 c.if-number-eq0.true) (c.definition_at.ensures ∙ entry_none _ _ (omega (arith, table_counted s.args.definitions.now)))

sub-t6 : tie.Need-overflow_sub-number
sub-t6 c = search rules

definition-at-requires-2 : tie.Need-definition_at-requires-2
definition-at-requires-2 c κs = search rules

returns-2 : tie.Need-returns
returns-2 c = rw (ne_eqb _ 0 c.if-number-eq0.false) c.definition_at-2.ensures

pub numbered_spec : {M : Type 1} → statement M
numbered_spec =
    tie.close (tie.spec
    definition-at-requires
    returns
    sub-t6
    definition-at-requires-2
    returns-2)
