-- `is_unfounded` is right by what AUGMENTS leads to.
-- Assumes nothing.
use mathlib.Core.Bool.{true, false}
use lib.Dec.{ltb}
use Rattle.module_table.specs.Definition.{definitions_in}
use Rattle.module_table.specs.declared.Definition.{Definition}
use Rattle.object_tree.specs.Words.{is_row, numbered}
use mathlib.Core.Path.{◌≡◌, ap, ◌∙◌}
use mathlib.Core.Bool.{Bool, not, ◌&&◌}
use borrow.Author.Tests.{lt-ltb, le-ltb}
use Rattle.clause_table.specs.Clause.{unfounded_augments}
use borrow.Author.Rules.{rules}
use Rattle.clause_table.proofs.name_clause.is_unfounded.Statement.{statement}
use Rattle.clause_table.proofs.name_clause.is_unfounded.Tie as tie

returns : tie.Need-returns-then-not-from-list
unfolding unfounded_augments
returns c =
    let s = c in
    let no : ltb s.args.d.augments.from s.args.d.augments.to ≡ false = le-ltb _ _ c.if-not-from-list.true in
    rw no

number-at-requires : tie.Need-number_at-requires
number-at-requires c κs = search rules

numbered-requires : tie.Need-numbered-named-requires
numbered-requires c κs = search rules

is-row-requires : tie.Need-is_row-requires
is-row-requires c κs = search rules

returns-2 : tie.Need-returns
unfolding unfounded_augments
returns-2 c =
    let r = c in
    let n = r in
    let e = n in
    let s = e in
    let given : ltb s.args.d.augments.from s.args.d.augments.to ≡ true = lt-ltb _ _ e.if-not-from-list.false in
    rw given (ap (λ (b : Bool). not (b && ltb n.numbered-named.result.index.from n.numbered-named.result.index.to)) r.is_row.ensures
    ∙ ap (λ (d : Definition). not (is_row d && ltb d.index.from d.index.to)) (n.numbered-named.ensures ∙ ap (numbered (definitions_in s.args.definitions.now)) n.number_at.ensures))

pub is_unfounded_spec : {M : Type 1} → statement M
is_unfounded_spec =
    tie.close (tie.spec
    returns
    number-at-requires
    numbered-requires
    is-row-requires
    returns-2)
