-- `class_at` is right: past the last token the list has no element.
-- Assumes nothing.
use mathlib.Core.Path.{sym}
use Prim.Native.Nat.{ℕ}
use lib.ListN.{get_or-eq_default}
use borrow.Author.Rules.{rules}
use Rattle.scope.proofs.import.class_at.Statement.{statement}
use Rattle.scope.proofs.import.class_at.Tie as tie

shared-slice-read-result : tie.Need-bounds-classes-i
shared-slice-read-result c = search rules

returns : tie.Need-returns-then-i-classes
returns c = search rules

returns-2 : tie.Need-returns-else-i-classes
returns-2 c = sym (get_or-eq_default {A = ℕ} c.args.classes.now 0 c.if-i-classes.false)

pub class_at_spec : {M : Type 1} → statement M
class_at_spec = tie.close (tie.spec
    shared-slice-read-result
    returns
    returns-2)
