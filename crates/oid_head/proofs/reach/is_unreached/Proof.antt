-- `is_unreached` is right: a definition with an OID value is reached where its head is.
-- Assumes nothing.
use mathlib.Core.Path.{sym, ◌∙◌}
use mathlib.Core.List.{[]}
use Rattle.oid_head.specs.Oid.{named_in}
use Rattle.oid_head.proofs.Reaching.{reaches_head, unreached_none, unreached_some}
use borrow.Author.Rules.{rules}
use Rattle.oid_head.proofs.reach.is_unreached.Statement.{statement}
use Rattle.oid_head.proofs.reach.is_unreached.Tie as tie

definition-at-requires : tie.Need-definition_at-own-requires
definition-at-requires c κs = search rules

has-value-requires : tie.Need-has_value-requires
has-value-requires c κs = search rules

head-of-requires : tie.Need-head_of-requires
head-of-requires c κs = search rules

head-reaches-requires : tie.Need-head_reaches-requires
head-reaches-requires c κs = search rules

returns : tie.Need-returns-then-has_value
returns c =
    let h = c in
    let v = h in
    let r = v in
    let s = r in
    let m = named_in [] s.args.values.now s.args.definitions.now in
    let own = r.definition_at-own.ensures in
    let value = sym v.has_value.ensures ∙ h.if-has_value.true in
    unreached_some m s.args.k.0 _ own value (c.head_reaches.ensures ∙ reaches_head m s.args.k.0 _ own value _ h.head_of.ensures)

returns-2 : tie.Need-returns
returns-2 c =
    let v = c in
    let s = v in
    let m = named_in [] s.args.values.now s.args.definitions.now in
    unreached_none m s.args.k.0 _ v.definition_at-own.ensures (sym v.has_value.ensures ∙ c.if-has_value.false)

pub is_unreached_spec : {M : Type 1} → statement M
is_unreached_spec =
    tie.close
    (tie.spec
    definition-at-requires
    has-value-requires
    head-of-requires
    head-reaches-requires
    returns
    returns-2)
