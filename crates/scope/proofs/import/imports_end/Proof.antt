-- `imports_end` is right because it asks the word where IMPORTS may stand, and finds the next `;`.
-- Assumes nothing.
use mathlib.Core.Path.{◌≡◌, sym, ◌∙◌}
use Prim.Native.Nat.{ℕ, ◌≤◌, min}
use native.Mathlib.Omega.{arith}
use lib.ListN.{length, get_or-eq_default}
use borrow.Author.Tests.{eq-eqb, ne_eqb}
use Rattle.scope.specs.Import.{imports_start, imports_end}
use borrow.Author.Rules.{rules}
use Rattle.scope.proofs.import.imports_end.Statement.{statement}
use Rattle.scope.proofs.import.imports_end.Tie as tie

returns : tie.Need-returns-then-classes-lt-IMPORTS_START
unfolding imports_end
returns c =
    let cs = c.args.classes.now in
    let short : length cs ≤ 4 = omega (arith, c.if-classes-lt-IMPORTS_START.true) in
    let few : min imports_start (length cs) ≡ length cs = omega arith in
    rw (get_or-eq_default {A = ℕ} cs 0 short, few)

sub-class-at : tie.Need-overflow_sub-class_at
sub-class-at c = search rules

class-at-requires : tie.Need-class_at-requires
class-at-requires c κs = search rules

find-requires : tie.Need-find-requires
find-requires c κs = search rules

returns-2 : tie.Need-returns-then-class_at-eq-IMPORTS
unfolding imports_end
returns-2 c = simp (eq-eqb _ _ (sym c.class_at.ensures ∙ c.if-class_at-eq-IMPORTS.true)) c.find.ensures

returns-3 : tie.Need-returns
unfolding imports_end
returns-3 c =
    let cs = c.args.classes.now in
    let enough : 5 ≡ min imports_start (length cs) = omega (arith, c.if-classes-lt-IMPORTS_START.false) in
    simp (ne_eqb _ _ (λ e. c.if-class_at-eq-IMPORTS.false (c.class_at.ensures ∙ e))) enough

pub imports_end_spec : {M : Type 1} → statement M
imports_end_spec =
    tie.close (tie.spec
    returns
    sub-class-at
    class-at-requires
    find-requires
    returns-2
    returns-3)
