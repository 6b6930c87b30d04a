-- `items_of` is right: it is the definition.
-- Assumes nothing.
use Rattle.std.proofs.Common.{ap, ◌∙◌}
use Rattle.syntax_check.specs.Refusal.{item_test, items_of}
use Rattle.syntax_check.proofs.test.items_of.Goals as goal

pub returns-then-has_syntax : goal.returns-then-has_syntax
unfolding items_of
returns-then-has_syntax c = rw (← c.has_syntax.ensures) (simp c.if-has_syntax.true (c.item_test.ensures ∙ ap item_test c.syntax_in.ensures))

pub returns : goal.returns
unfolding items_of
returns c = rw (← c.has_syntax.ensures) (simp c.if-has_syntax.false)
