-- The pair is right: a name that leads to a definition reaches what the definition's head does, with one head less to follow.
-- Assumes nothing.
use Rattle.std.proofs.Common.{[], ltb, ◌-◌, refl, sym, ap, ◌∙◌, arith}
use Rattle.module_table.specs.declared.Lead.TheVariants.{Iso, Import, Nothing}
use Rattle.oid_head.specs.Oid.{named_in, reached_in}
use Rattle.oid_head.proofs.Reaching.{none_left, no_head, goes_on, stays_at}
use Rattle.oid_head.proofs.reach.+definition_reaches_name_reaches.Goals as goal

pub definition_reaches-returns-then-left-eq0 : goal.definition_reaches-returns-then-left-eq0
definition_reaches-returns-then-left-eq0 t c =
    none_left (named_in [] c.args.values.now c.args.definitions.now) c.args.d _ refl _ c.if-left-eq0.true

pub definition_reaches-returns-then-not-has_value :
    goal.definition_reaches-returns-then-not-has_value
definition_reaches-returns-then-not-has_value t c =
    no_head (named_in [] c.args.values.now c.args.definitions.now) c.args.d _ c.definition_at-own.ensures _
    (sym c.has_value.ensures ∙ c.if-not-has_value.true)

pub definition_reaches-name_reaches-requires : goal.definition_reaches-name_reaches-requires
definition_reaches-name_reaches-requires t c = (omega (arith, c.decreases, c.if-left-eq0.false), tt)

pub definition_reaches-returns : goal.definition_reaches-returns
definition_reaches-returns t c =
    let m = named_in [] c.args.values.now c.args.definitions.now in
    c.name_reaches.ensures ∙ ap (reached_in m (c.args.left - 1)) c.head_of.ensures
    ∙ goes_on m c.args.d _ c.definition_at-own.ensures _ (sym c.has_value.ensures ∙ c.if-not-has_value.false) c.if-left-eq0.false

pub name_reaches-definition_reaches-requires : goal.name_reaches-definition_reaches-requires
name_reaches-definition_reaches-requires t c = (omega (arith, c.decreases), tt)

pub name_reaches-returns-in-Iso : goal.name_reaches-returns-in-Iso
name_reaches-returns-in-Iso t c = stays_at (named_in [] c.args.values.now c.args.definitions.now) _ Iso _ c.in-Iso.is refl

pub name_reaches-returns-in-Import : goal.name_reaches-returns-in-Import
name_reaches-returns-in-Import t c =
    ap (ltb 0) c.symbol_length.ensures ∙ stays_at (named_in [] c.args.values.now c.args.definitions.now) _ (Import _) _ c.in-Import.is refl

pub name_reaches-returns-in-Nothing : goal.name_reaches-returns-in-Nothing
name_reaches-returns-in-Nothing t c = stays_at (named_in [] c.args.values.now c.args.definitions.now) _ Nothing _ c.in-Nothing.is refl
