-- `exceeds` is right: it is the definition.
-- Assumes nothing.
use Rattle.sub_type.specs.Range.{exceeds}
use borrow.Author.Rules.{rules}
use Rattle.sub_type.proofs.range.exceeds.Statement.{statement}
use Rattle.sub_type.proofs.range.exceeds.Tie as tie

high-token-requires : tie.Need-high_token-high-requires
high-token-requires c κs = search rules

is-outside-requires : tie.Need-is_outside-requires
is-outside-requires c κs = search rules

is-outside-requires-2 : tie.Need-is_outside-requires-2
is-outside-requires-2 c κs = search rules

returns : tie.Need-returns
unfolding exceeds
returns c = rw (← c.high_token-high.ensures, ← c.is_outside.ensures, ← c.is_outside-2.ensures)

pub exceeds_spec : {M : Type 1} → statement M
exceeds_spec =
    tie.close (tie.spec
    high-token-requires
    is-outside-requires
    is-outside-requires-2
    returns)
