-- `is_macro` is right: it is the definition, test by test.
-- Assumes nothing.
use borrow.Author.Rules.{rules}
use Rattle.definition.specs.Landmark.{is_macro}
use Rattle.definition.proofs.landmark.is_macro.Statement.{statement}
use Rattle.definition.proofs.landmark.is_macro.Tie as tie

is-defining-requires : tie.Need-is_defining-requires
is-defining-requires c κs = search rules

returns : tie.Need-returns-then-is_defining
unfolding is_macro
returns c = rw (← c.is_defining.ensures) (simp c.if-is_defining.true)

returns-2 : tie.Need-returns-else-is_defining
unfolding is_macro
returns-2 c = rw (← c.is_defining.ensures) (simp c.if-is_defining.false)

pub is_macro_spec : {M : Type 1} → statement M
is_macro_spec = tie.close (tie.spec
    is-defining-requires
    returns
    returns-2)
