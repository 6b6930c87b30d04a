-- `absent` is right: each field is 0.
-- Assumes nothing.
use mathlib.Core.Path.{refl}
use Rattle.module_table.specs.Definition.{absent}
use Rattle.module_table.proofs.definition_table.absent.Statement.{statement}
use Rattle.module_table.proofs.definition_table.absent.Tie as tie

returns : tie.Need-returns
unfolding absent
returns c = refl

pub absent_spec : {M : Type 1} → statement M
absent_spec = tie.close (tie.spec
    returns)
