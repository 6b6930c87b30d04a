-- `index_clause` is right, test by test.
-- Assumes nothing.
use mathlib.Core.Path.{◌≡◌, sym, ap, ◌∙◌}
use mathlib.Core.Bool.{Bool, not, ◌&&◌}
use Rattle.object_tree.specs.Words.{is_row, is_indexed}
use Rattle.clause_table.specs.Clause.{unindexed_row, indexed_object}
use Rattle.clause_table.specs.Held.{index_clause}
use borrow.Author.Rules.{rules}
use Rattle.clause_table.proofs.row_clause.index_clause.Statement.{statement}
use Rattle.clause_table.proofs.row_clause.index_clause.Tie as tie

asked_row : (h : tie.After-is_indexed) → (h.is_row.result && not h.is_indexed.result) ≡ unindexed_row h.args.d
asked_row h = ap (λ (b : Bool). b && not h.is_indexed.result) h.is_row.ensures ∙ ap (λ (b : Bool). is_row h.args.d && not b) h.is_indexed.ensures

asked_other : (h : tie.After-is_indexed-2) → (not h.is_row-2.result && h.is_indexed-2.result) ≡ indexed_object h.args.d
asked_other h =
    let s = h in
    ap (λ (b : Bool). not b && h.is_indexed-2.result) h.is_row-2.ensures ∙ ap (λ (b : Bool). not (is_row s.args.d) && b) h.is_indexed-2.ensures

is-row-requires : tie.Need-is_row-requires
is-row-requires c κs = search rules

is-indexed-requires : tie.Need-is_indexed-requires
is-indexed-requires c κs = search rules

returns : tie.Need-returns-then-is_row-is_indexed
unfolding index_clause
returns c =
    let yes = sym (asked_row c.before) ∙ c.if-is_row-is_indexed.true in
    rw yes

is-row-requires-2 : tie.Need-is_row-requires-2
is-row-requires-2 c κs = search rules

is-indexed-requires-2 : tie.Need-is_indexed-requires-2
is-indexed-requires-2 c κs = search rules

returns-2 : tie.Need-returns-then-is_row-is_indexed-2
unfolding index_clause
returns-2 c =
    let no = sym (asked_row c.before.before.before.before) ∙ c.if-is_row-is_indexed.false in
    let yes = sym (asked_other c.before) ∙ c.if-is_row-is_indexed-2.true in
    rw (no, yes)

returns-3 : tie.Need-returns
unfolding index_clause
returns-3 c =
    let no = sym (asked_row c.before.before.before.before) ∙ c.if-is_row-is_indexed.false in
    let none = sym (asked_other c.before) ∙ c.if-is_row-is_indexed-2.false in
    rw (no, none)

pub index_clause_spec : {M : Type 1} → statement M
index_clause_spec =
    tie.close
    (tie.spec
    is-row-requires
    is-indexed-requires
    returns
    is-row-requires-2
    is-indexed-requires-2
    returns-2
    returns-3)
