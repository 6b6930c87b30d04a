-- `widen` is right by the laws of the extremes of ranges.
-- Assumes nothing.
use mathlib.Core.Path.{sym, ◌∙◌}
use native.Mathlib.Omega.{arith}
use Rattle.range_list.proofs.Spreading.{spread_skip, spread_below, spread_above}
use borrow.Author.Rules.{rules}
use Rattle.range_list.proofs.spread.widen.Statement.{statement}
use Rattle.range_list.proofs.spread.widen.Tie as tie

starts-range-requires : tie.Need-starts_range-requires
starts-range-requires c κs = search rules

returns : tie.Need-returns-then-not-starts_range
returns c =
    let s = c in
    spread_skip _ _ _ _ _ _ s.requires.0 (sym c.starts_range.ensures ∙ c.if-not-starts_range.true)

is-backward-requires : tie.Need-is_backward-requires
is-backward-requires c κs = search rules

returns-2 : tie.Need-returns-then-is_backward
returns-2 c = search rules

is-below-requires : tie.Need-is_below-requires
is-below-requires c κs =
    let s = c in
    omega (arith, s.requires.1)

returns-3 : tie.Need-returns-then-is_below
returns-3 c =
    let on = c in
    let starts = on in
    let s = starts in
    spread_below _ _ _ _ _ _ s.requires.0 (sym starts.starts_range.ensures ∙ on.if-not-starts_range.false)
    (sym on.is_backward.ensures ∙ c.if-is_backward.false)
    (sym c.is_below.ensures ∙ c.if-is_below.true)

is-below-requires-2 : tie.Need-is_below-requires-2
is-below-requires-2 c κs =
    let s = c in
    omega (arith, s.requires.0.last.inside.1, s.requires.1)

returns-4 : tie.Need-returns-then-is_below-2
returns-4 c =
    let below = c in
    let on = below in
    let starts = on in
    let s = starts in
    spread_above _ _ _ _ _ _ s.requires.0 (sym starts.starts_range.ensures ∙ on.if-not-starts_range.false)
    (sym on.is_backward.ensures ∙ below.if-is_backward.false)
    (sym c.is_below-2.ensures ∙ c.if-is_below-2.true)

returns-5 : tie.Need-returns
returns-5 c = search rules

pub widen_spec : {M : Type 1} → statement M
widen_spec =
    tie.close
    (tie.spec
    starts-range-requires
    returns
    is-backward-requires
    returns-2
    is-below-requires
    returns-3
    is-below-requires-2
    returns-4
    returns-5)
