-- `misplaced_finding` is right: it says what the rule says.
-- Assumes nothing.
use mathlib.Core.Path.{sym, ◌∙◌}
use Rattle.range_list.specs.Refusal.{misplaced_range}
use borrow.Author.Rules.{rules}
use Rattle.range_list.proofs.misplaced_finding.Statement.{statement}
use Rattle.range_list.proofs.misplaced_finding.Tie as tie

is-backward-requires : tie.Need-is_backward-requires
is-backward-requires c κs = search rules

returns : tie.Need-returns-then-is_backward
unfolding misplaced_range
returns c = rw (sym c.is_backward.ensures ∙ c.if-is_backward.true)

first-sharing-requires : tie.Need-first_sharing-requires
first-sharing-requires c κs = search rules

returns-2 : tie.Need-returns
unfolding misplaced_range
returns-2 c = rw (sym c.is_backward.ensures ∙ c.if-is_backward.false, ← c.first_sharing.ensures)

pub misplaced_finding_spec : {M : Type 1} → statement M
misplaced_finding_spec =
    tie.close
    (tie.spec
    is-backward-requires
    returns
    first-sharing-requires
    returns-2)
