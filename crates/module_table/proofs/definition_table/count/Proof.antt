-- `count` is right: there are as many definitions as there is room for.
-- Assumes nothing.
use mathlib.Core.Path.{sym}
use Rattle.module_table.proofs.Table.{table_counted}
use Rattle.module_table.proofs.definition_table.count.Statement.{statement}
use Rattle.module_table.proofs.definition_table.count.Tie as tie

returns : tie.Need-returns
returns c = sym (table_counted _)

pub count_spec : {M : Type 1} → statement M
count_spec = tie.close (tie.spec
    returns)
