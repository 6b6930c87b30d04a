-- `is_free` is right: it is the definition.
-- Assumes nothing.
use mathlib.Core.Path.{ap, ◌∙◌}
use borrow.Author.Tests.{lt-ltb, le-ltb}
use Rattle.range_list.specs.Misplaced.{is_below}
use borrow.Author.Rules.{rules}
use Rattle.range_list.proofs.sorted.is_free.Statement.{statement}
use Rattle.range_list.proofs.sorted.is_free.Tie as tie

mul-wide-u16 : tie.Need-offset_bounds-order-at
mul-wide-u16 c = search rules

shared-slice-read-wide-u16 : tie.Need-bounds-order-at
shared-slice-read-wide-u16 c = search rules

wide-u16-requires : tie.Need-wide_u16-requires
wide-u16-requires c κs = search rules

is-below-requires : tie.Need-is_below-requires
is-below-requires c κs = search rules

returns : tie.Need-returns-then-at-count
returns c =
    let w = c in
    let s = w in
    simp (lt-ltb _ _ w.if-at-count.true)
    (c.is_below.ensures ∙ ap (is_below s.args.classes.now s.args.values.now s.args.token) w.wide_u16.ensures)

returns-2 : tie.Need-returns
returns-2 c = simp (le-ltb _ _ c.if-at-count.false)

pub is_free_spec : {M : Type 1} → statement M
is_free_spec =
    tie.close
    (tie.spec
    mul-wide-u16
    shared-slice-read-wide-u16
    wide-u16-requires
    is-below-requires
    returns
    returns-2)
