-- `definition_at` is right: a definition within the words is read off its own.
-- Assumes nothing.
use mathlib.Core.Path.{sym, ◌∙◌}
use native.Mathlib.Omega.{arith}
use Rattle.module_table.proofs.Table.{table_counted, entry_read, entry_none}
use borrow.Author.Rules.{rules}
use Rattle.module_table.proofs.definition_table.definition_at.Statement.{statement}
use Rattle.module_table.proofs.definition_table.definition_at.Tie as tie

mul-definition-from : tie.Need-overflow_mul-at
mul-definition-from c = search rules

definition-from-requires : tie.Need-definition_from-requires
definition-from-requires c κs = search rules

returns : tie.Need-returns-then-at-definitions
returns c = c.definition_from.ensures ∙ sym (entry_read _ c.args.k.0 (omega (arith, c.if-at-definitions.true, table_counted c.args.definitions.now)))

absent-requires : tie.Need-absent-requires
absent-requires c κs = search rules

returns-2 : tie.Need-returns
returns-2 c =
    let s = c in
    c.absent.ensures ∙ sym (entry_none _ s.args.k.0 (omega (arith, c.if-at-definitions.false, table_counted s.args.definitions.now)))

pub definition_at_spec : {M : Type 1} → statement M
definition_at_spec =
    tie.close
    (tie.spec
    mul-definition-from
    definition-from-requires
    returns
    absent-requires
    returns-2)
