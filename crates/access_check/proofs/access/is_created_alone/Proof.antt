-- `is_created_alone` is right: both tests are made.
-- Assumes nothing.
use mathlib.Core.Path.{ap, ◌∙◌}
use mathlib.Core.Bool.{Bool, not, ◌&&◌}
use lib.Dec.{eqb}
use Rattle.object_tree.specs.Words.{is_row}
use borrow.Author.Rules.{rules}
use Rattle.access_check.proofs.access.is_created_alone.Statement.{statement}
use Rattle.access_check.proofs.access.is_created_alone.Tie as tie

numbered-requires : tie.Need-numbered-requires
numbered-requires c κs = search rules

is-row-requires : tie.Need-is_row-requires
is-row-requires c κs = search rules

returns : tie.Need-returns
returns c =
    let s = c in
    ap (λ (b : Bool). eqb s.args.d.access 5 && not b) (c.is_row.ensures ∙ ap is_row c.numbered.ensures)

pub is_created_alone_spec : {M : Type 1} → statement M
is_created_alone_spec = tie.close (tie.spec
    numbered-requires
    is-row-requires
    returns)
