-- `is_held_twice` is right by what is told of the definition and of those before it.
-- Assumes nothing.
use mathlib.Core.Path.{sym, ◌∙◌}
use Rattle.oid_holder.proofs.Twins.{twice_not, twice_before}
use borrow.Author.Rules.{rules}
use Rattle.oid_holder.proofs.is_held_twice.Statement.{statement}
use Rattle.oid_holder.proofs.is_held_twice.Tie as tie

definition-at-requires : tie.Need-definition_at-requires
definition-at-requires c κs = search rules

is-holder-requires : tie.Need-is_holder-requires
is-holder-requires c κs = search rules

is-held-before-requires : tie.Need-is_held_before-requires
is-held-before-requires c κs = search rules

returns : tie.Need-returns-then-is_holder
returns c =
    let h = c in
    c.is_held_before.ensures ∙ twice_before _ _ _ _ h.definition_at.ensures (sym h.is_holder.ensures ∙ c.if-is_holder.true)

returns-2 : tie.Need-returns
returns-2 c =
    let h = c in
    twice_not _ _ _ _ h.definition_at.ensures (sym h.is_holder.ensures ∙ c.if-is_holder.false)

pub is_held_twice_spec : {M : Type 1} → statement M
is_held_twice_spec =
    tie.close
    (tie.spec
    definition-at-requires
    is-holder-requires
    is-held-before-requires
    returns
    returns-2)
