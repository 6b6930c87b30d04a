-- `class_at` is right: past the last token the class is 0.
-- Assumes nothing.
use Prim.Native.Nat.{ℕ}
use lib.ListN.{get_or-eq_default}
use borrow.Author.Rules.{rules}
use Rattle.sub_type.proofs.number.class_at.Statement.{statement}
use Rattle.sub_type.proofs.number.class_at.Tie as tie

shared-slice-read-result : tie.Need-bounds-classes-i
shared-slice-read-result c = search rules

returns : tie.Need-returns-then-i-classes
returns c = search rules

returns-2 : tie.Need-returns
returns-2 c = rw (get_or-eq_default {A = ℕ} _ 0 c.if-i-classes.false)

pub class_at_spec : {M : Type 1} → statement M
class_at_spec = tie.close (tie.spec
    shared-slice-read-result
    returns
    returns-2)
