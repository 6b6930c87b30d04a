-- `head_reaches` is right: an earlier definition is reached if it has an OID value, and any other name is followed.
-- Assumes nothing.
use mathlib.Core.Path.{sym, ap, ◌∙◌}
use mathlib.Core.List.{[]}
use Prim.Native.Nat.{ℕ}
use Rattle.module_table.specs.Module.{Module, count_of}
use Rattle.module_table.specs.declared.Lead.{Lead}
use Rattle.oid_head.specs.Oid.{named_in, reached_in}
use Rattle.oid_head.proofs.Reaching.{earlier_reached}
use borrow.Author.Rules.{rules}
use Rattle.oid_head.proofs.reach.head_reaches.Statement.{statement}
use Rattle.oid_head.proofs.reach.head_reaches.Tie as tie

-- the module that the heads are followed in
abbrev heads_of : tie.Start → Module
heads_of s = named_in [] s.args.values.now s.args.definitions.now

enum-known-head : tie.Need-enum_known-head
enum-known-head c = search rules

count-requires : tie.Need-count-requires
count-requires c κs = search rules

name-reaches-requires : tie.Need-name_reaches-requires
name-reaches-requires c κs = search rules

returns : tie.Need-returns-in_default
returns c =
    let s = c in
    c.name_reaches.ensures ∙ ap (λ (n : ℕ). reached_in (heads_of s.before.before.before.before.before) n s.args.head) c.count.ensures

definition-at-requires : tie.Need-definition_at-requires
definition-at-requires c κs = search rules

has-value-requires : tie.Need-has_value-requires
has-value-requires c κs = search rules

returns-2 : tie.Need-returns-then-d-k
returns-2 c =
    let read = c in
    let t = read in
    let h = t in
    let s = h in
    c.has_value.ensures
    ∙ earlier_reached (heads_of s.before.before.before.before.before.before.before.before) _ _ read.definition_at.ensures (s.requires _ t.if-d-k.true)
    ∙ ap (reached_in (heads_of s.before.before.before.before.before.before.before.before) (count_of (heads_of s.before.before.before.before.before.before.before.before))) (sym h.in-Definition.is)

count-requires-2 : tie.Need-count-requires-2
count-requires-2 c κs = search rules

definition-reaches-requires : tie.Need-definition_reaches-requires
definition-reaches-requires c κs = search rules

returns-3 : tie.Need-returns
returns-3 c =
    let n = c in
    let h = n in
    let s = h in
    c.definition_reaches.ensures ∙ ap (λ (x : ℕ). reached_in (heads_of s.before.before.before.before.before.before.before.before) x (Lead.Definition h.in-Definition.d)) n.count-2.ensures
    ∙ ap (reached_in (heads_of s.before.before.before.before.before.before.before.before) (count_of (heads_of s.before.before.before.before.before.before.before.before))) (sym h.in-Definition.is)

pub head_reaches_spec : {M : Type 1} → statement M
head_reaches_spec =
    tie.close
    (tie.spec
    enum-known-head
    count-requires
    name-reaches-requires
    returns
    definition-at-requires
    has-value-requires
    returns-2
    count-requires-2
    definition-reaches-requires
    returns-3)
