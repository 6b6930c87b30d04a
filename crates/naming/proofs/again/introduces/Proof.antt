-- `introduces` is right because its tests are those of the definition.
-- Assumes nothing.
use mathlib.Core.Path.{sym, ap, ◌∙◌}
use mathlib.Core.List.{List}
use Prim.Native.Nat.{ℕ}
use lib.Seq.{take-length}
use Rattle.definition.specs.Landmark.{begins}
use Rattle.scope.specs.Lead.{introduces}
use borrow.Author.Rules.{rules}
use Rattle.naming.proofs.again.introduces.Statement.{statement}
use Rattle.naming.proofs.again.introduces.Tie as tie

is-import-requires : tie.Need-is_import-requires
is-import-requires c κs = search rules

returns : tie.Need-returns-then-is_import
unfolding introduces
returns c = simp (sym c.is_import.ensures ∙ c.if-is_import.true)

begins-requires : tie.Need-begins-requires
begins-requires c κs = search rules

returns-2 : tie.Need-returns
unfolding introduces
returns-2 c =
    let s = c in
    simp (sym c.is_import.ensures ∙ c.if-is_import.false)
    (c.begins.ensures ∙ ap (λ (cs : List ℕ). begins cs s.args.i) (take-length s.args.classes.now))

pub introduces_spec : {M : Type 1} → statement M
introduces_spec = tie.close (tie.spec
    is-import-requires
    returns
    begins-requires
    returns-2)
