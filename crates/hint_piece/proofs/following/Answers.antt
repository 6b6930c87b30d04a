-- Each test that was made picks the case.
-- Assumes nothing.
use Rattle.std.proofs.Common.{◌∙◌}
use borrow.Author.Tests.{le-leb, lt-leb, eq-eqb, ne_eqb}
use Rattle.hint_piece.proofs.UsesLaws.{or_mark}
use Rattle.hint_piece.proofs.following.Goals as goal

pub returns-then-value-next : goal.returns-then-value-next
unfolding Rattle.hint_piece.specs.Use.following
returns-then-value-next c = simp (le-leb _ _ c.if-value-next.true)

pub returns-then-left-eq0 : goal.returns-then-left-eq0
unfolding Rattle.hint_piece.specs.Use.following
returns-then-left-eq0 c = simp (lt-leb _ _ c.if-value-next.false, eq-eqb _ _ c.if-left-eq0.true)
    (c.or.ensures ∙ or_mark c.args.piece.terminator c.args.piece.separator)

pub returns-else-left-eq0 : goal.returns-else-left-eq0
unfolding Rattle.hint_piece.specs.Use.following
returns-else-left-eq0 c = simp (lt-leb _ _ c.if-value-next.false, ne_eqb _ _ c.if-left-eq0.false)
