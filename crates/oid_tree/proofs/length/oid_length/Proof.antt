-- `oid_length` is right: a definition that has an OID value is reached, and one that has none has no numbers.
-- Assumes nothing.
use mathlib.Core.Path.{sym, ap, ◌∙◌}
use Prim.Native.Nat.{ℕ}
use lib.ListN.{length}
use Rattle.module_table.specs.Module.{Module}
use Rattle.oid_head.specs.Oid.{named_in, has_value, name_of, reached_in, reaches}
use Rattle.oid_head.proofs.Meaning.{value_inside, oid_none}
use Rattle.oid_tree.proofs.length.oid_length.Statement.{statement}
use Rattle.oid_tree.proofs.length.oid_length.Tie as tie

-- the module that the heads are followed in
abbrev module_of : tie.Start → Module
module_of s = named_in s.args.classes.now s.args.values.now s.args.definitions.now

definition-at-requires : tie.Need-definition_at-requires
definition-at-requires c κs = tt

has-value-requires : tie.Need-has_value-requires
has-value-requires c κs = tt

count-requires : tie.Need-count-requires
count-requires c κs = tt

definition-length-requires : tie.Need-definition_length-requires
unfolding reaches
definition-length-requires c κs =
    let v = c in
    let r = v in
    let s = r in
    let value = sym (v.has_value.ensures ∙ ap has_value r.definition_at.ensures) ∙ c.if-has_value.true in (
      s.requires.0,
      ap (λ (n : ℕ). reached_in (module_of s.before.before.before.before.before.before.before) n (name_of s.args.k.0)) c.count.ensures
          ∙ s.requires.1 s.args.k.0 (value_inside (module_of s.before.before.before.before.before.before.before) s.args.k.0 value) value,
    )

returns : tie.Need-returns-then-has_value
returns c = c.definition_length.ensures

returns-2 : tie.Need-returns
returns-2 c =
    let v = c in
    let r = v in
    let s = r in
    sym (ap length (oid_none (module_of s.before.before.before.before.before.before) s.args.k.0 (sym (v.has_value.ensures ∙ ap has_value r.definition_at.ensures) ∙ c.if-has_value.false)))

pub oid_length_spec : {M : Type 1} → statement M
oid_length_spec =
    tie.close
    (tie.spec
    definition-at-requires
    has-value-requires
    count-requires
    definition-length-requires
    returns
    returns-2)
