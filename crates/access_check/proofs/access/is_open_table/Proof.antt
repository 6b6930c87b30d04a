-- `is_open_table` is right: all tests are made.
-- Assumes nothing.
use mathlib.Core.Path.{ap, ◌∙◌}
use mathlib.Core.Bool.{Bool, not, ◌&&◌, ◌||◌}
use lib.Dec.{eqb}
use Rattle.object_tree.specs.Words.{is_table}
use borrow.Author.Rules.{rules}
use Rattle.access_check.proofs.access.is_open_table.Statement.{statement}
use Rattle.access_check.proofs.access.is_open_table.Tie as tie

is-table-requires : tie.Need-is_table-requires
is-table-requires c κs = search rules

is-row-requires : tie.Need-is_row-requires
is-row-requires c κs = search rules

returns : tie.Need-returns
returns c =
    let r = c in
    let s = r in
    ap (λ (b : Bool). (b || r.is_row.result) && not (eqb s.args.d.access 1)) r.is_table.ensures
    ∙ ap (λ (b : Bool). (is_table s.args.d || b) && not (eqb s.args.d.access 1)) r.is_row.ensures

pub is_open_table_spec : {M : Type 1} → statement M
is_open_table_spec = tie.close (tie.spec
    is-table-requires
    is-row-requires
    returns)
