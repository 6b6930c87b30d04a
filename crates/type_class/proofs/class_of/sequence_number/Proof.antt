-- `sequence_number` is right: it is the definition.
-- Assumes nothing.
use Rattle.type_class.proofs.Stages.{number_small}
use Rattle.type_class.specs.Class.{sequence_number}
use Rattle.module_table.specs.declared.Lead.{Lead}
use Rattle.module_table.specs.Lead.{definition_number}
use Prim.Native.Nat.{◌≤◌}
use mathlib.Core.Path.{sym, subst}
use borrow.Author.Rules.{rules}
use Rattle.type_class.proofs.class_of.sequence_number.Statement.{statement}
use Rattle.type_class.proofs.class_of.sequence_number.Tie as tie

lead-of-requires : tie.Need-lead_of-requires
lead-of-requires c κs = search rules

definition-number-requires : tie.Need-definition_number-requires
definition-number-requires c κs =
    let s = c in
    subst (λ (l : Lead). definition_number l ≤ 512) (sym c.lead_of.ensures) (number_small s.args.values.now s.args.syntax)

returns : tie.Need-returns-then-class
unfolding sequence_number
returns c = simp c.if-class.true (cc)

returns-2 : tie.Need-returns
unfolding sequence_number
returns-2 c = simp c.if-class.false

pub sequence_number_spec : {M : Type 1} → statement M
sequence_number_spec =
    tie.close (tie.spec
    lead-of-requires
    definition-number-requires
    returns
    returns-2)
