-- `value_at` is right: past the last token there is no value.
-- Assumes nothing.
use mathlib.Core.Path.{sym}
use lib.ListN.{get_or-eq_default}
use borrow.Author.Rules.{rules}
use Rattle.oid_number.proofs.part.value_at.Statement.{statement}
use Rattle.oid_number.proofs.part.value_at.Tie as tie

mul-result : tie.Need-offset_bounds-values-i
mul-result c = search rules

shared-slice-read-result : tie.Need-bounds-values-i
shared-slice-read-result c = search rules

returns : tie.Need-returns-then-i-values
returns c = search rules

returns-2 : tie.Need-returns
returns-2 c = sym (get_or-eq_default c.args.values.now 0 {n = c.args.i} c.if-i-values.false)

pub value_at_spec : {M : Type 1} → statement M
value_at_spec = tie.close (tie.spec
    mul-result
    shared-slice-read-result
    returns
    returns-2)
