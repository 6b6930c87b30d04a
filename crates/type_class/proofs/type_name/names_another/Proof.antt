-- `names_another` is right: it is the definition.
-- Assumes nothing.
use borrow.Author.Rules.{rules}
use Rattle.type_class.proofs.type_name.names_another.Statement.{statement}
use Rattle.type_class.proofs.type_name.names_another.Tie as tie

is-named-requires : tie.Need-is_named-requires
is-named-requires c κs = search rules

lead-of-requires : tie.Need-lead_of-requires
lead-of-requires c κs = search rules

is-smi-lead-requires : tie.Need-is_smi_lead-requires
is-smi-lead-requires c κs = search rules

returns : tie.Need-returns
returns c = cc

pub names_another_spec : {M : Type 1} → statement M
names_another_spec =
    tie.close (tie.spec
    is-named-requires
    lead-of-requires
    is-smi-lead-requires
    returns)
