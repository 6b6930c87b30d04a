-- `find` is right: all tokens are searched.
-- Assumes nothing.
use mathlib.Core.Path.{ap, ◌∙◌}
use mathlib.Core.List.{List}
use Prim.Native.Nat.{ℕ}
use lib.ListN.{length}
use lib.Seq.{take-length}
use Rattle.definition.specs.Fields.{find}
use borrow.Author.Rules.{rules}
use Rattle.scope.proofs.import.find.Statement.{statement}
use Rattle.scope.proofs.import.find.Tie as tie

find-requires : tie.Need-find-requires
find-requires c κs = search rules

returns : tie.Need-returns
returns c =
    let a = c.args in
    c.find.ensures ∙ ap (λ (cs : List ℕ). find cs a.class a.a (length a.classes.now)) (take-length a.classes.now)

pub find_spec : {M : Type 1} → statement M
find_spec = tie.close (tie.spec
    find-requires
    returns)
