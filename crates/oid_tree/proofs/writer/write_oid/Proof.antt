-- `write_oid` is right: where the head is defined earlier its numbers are copied, and any other is followed.
-- Assumes nothing.
use mathlib.Core.Path.{◌≡◌, sym, ap, ◌∙◌}
use mathlib.Core.Bool.{true}
use mathlib.Core.List.{List}
use Prim.Native.Nat.{ℕ, ◌+◌, ◌≤◌}
use lib.ListN.{length}
use Rattle.module_table.specs.Module.{Module}
use Rattle.oid_head.specs.Oid.{named_in, has_value, reaches, resolved_oid, first_number}
use Rattle.oid_number.specs.Buffer.{laid_at}
use Rattle.oid_head.proofs.Meaning.{oid_none}
use Rattle.oid_number.proofs.Laid.{laid_none}
use Rattle.oid_tree.proofs.Placing.{own_reached, own_start, own_room, head_apart, parts_room, behind_laid}
use borrow.Author.Rules.{rules}
use Rattle.oid_tree.proofs.writer.write_oid.Statement.{statement}
use Rattle.oid_tree.proofs.writer.write_oid.Tie as tie

abbrev start : tie.After-definition_at-own → tie.Start
start r = r.before.before.before.before.before

-- the module that the heads are followed in
abbrev module_of : tie.Start → Module
module_of s = named_in s.args.classes.now s.args.values.now s.args.definitions.now

-- the definition has an OID value
value : (h : tie.After-head_of-head) → has_value h.definition_at-own.result ≡ true
value h = sym h.has_value.ensures ∙ h.if-not-has_value.false

-- its heads can be followed
followed : (h : tie.After-head_of-head)
    → (reaches (module_of (start h.before.before.before)) (start h.before.before.before).args.k.0 ≡ true)
    × (h.definition_at-own.result.start.0 + length (resolved_oid (module_of (start h.before.before.before)) (start h.before.before.before).args.k.0) ≤ length (start h.before.before.before).args.numbers.now)
followed h =
    let r = h in
    let s = start r.before.before.before in
    let m = module_of s in (
      own_reached m s.requires.0 s.requires.1.0 s.args.k _ r.definition_at-own.ensures (value h),
      own_room m s.requires.0 s.requires.1.0 s.args.k _ r.definition_at-own.ensures (value h) _ s.requires.1.1.0,
    )

-- and what is laid at its start is laid behind the numbers before it
laid : (h : tie.After-head_of-head) (after : List ℕ)
    → after ≡ laid_at h.definition_at-own.result.start.0 (resolved_oid (module_of (start h.before.before.before)) (start h.before.before.before).args.k.0) (start h.before.before.before).args.numbers.now
    → after ≡ laid_at (first_number (module_of (start h.before.before.before)) (start h.before.before.before).args.k.0) (resolved_oid (module_of (start h.before.before.before)) (start h.before.before.before).args.k.0) (start h.before.before.before).args.numbers.now
laid h after is =
    let r = h in
    let s = start r.before.before.before in
    let m = module_of s in
    is
    ∙ ap (λ (n : ℕ). laid_at n (resolved_oid m s.args.k.0) s.args.numbers.now)
    (own_start m s.requires.0 s.requires.1.0 s.args.k _ r.definition_at-own.ensures (value h))

definition-at-requires : tie.Need-definition_at-own-requires
definition-at-requires c κs = search rules

has-value-requires : tie.Need-has_value-requires
has-value-requires c κs = search rules

returns : tie.Need-returns-then-not-has_value
returns c =
    let v = c in
    let r = v in
    let s = start r.before.before in
    laid_none (first_number (module_of s) s.args.k.0) (resolved_oid (module_of s) s.args.k.0) _ (oid_none (module_of s) s.args.k.0 (sym (v.has_value.ensures ∙ ap has_value r.definition_at-own.ensures) ∙ c.if-not-has_value.true))

head-of-requires : tie.Need-head_of-head-requires
head-of-requires c κs = search rules

enum-known-head : tie.Need-enum_known-head
enum-known-head c = search rules

write-followed-requires : tie.Need-write_followed-requires
write-followed-requires c κs = followed c.before.before.before

same_length : tie.Need-shape_of-numbers-in_default
same_length c = search rules

returns-2 : tie.Need-returns-in_default
returns-2 c =
    let w = c in
    laid w.before.before.before.before.before.before _ w.write_followed.ensures

definition-at-requires-2 : tie.Need-definition_at-requires
definition-at-requires-2 c κs = search rules

write-behind-requires : tie.Need-write_behind-requires
write-behind-requires c κs =
    let t = c in
    let e = t in
    let h = e in
    let r = h in
    let s = start r.before.before.before.before.before.before.before.before.before in
    let m = module_of s in (
      head_apart m s.requires.0 s.requires.1.0 s.args.k _ r.definition_at-own.ensures (value h.before.before.before.before.before.before) _ h.head_of-head.ensures _ e.in-Definition.is t.if-d-k.true _ c.definition_at.ensures,
      parts_room m s.requires.0 s.requires.1.0 s.args.k _ r.definition_at-own.ensures (value h.before.before.before.before.before.before) _ h.head_of-head.ensures _ e.in-Definition.is t.if-d-k.true _ c.definition_at.ensures _ s.requires.1.1.0,
    )

same-length-2 : tie.Need-shape_of-numbers-then-d-k
same-length-2 c = search rules

returns-3 : tie.Need-returns-then-d-k
returns-3 c =
    let w = c in
    let d = w in
    let t = d in
    let e = t in
    let h = e in
    let r = h in
    let s = start r.before.before.before.before.before.before.before.before.before.before.before.before in
    w.write_behind.ensures
    ∙ behind_laid (module_of s) s.requires.0 s.requires.1.0 s.args.k _ r.definition_at-own.ensures (value h.before.before.before.before.before.before.before.before.before) _ h.head_of-head.ensures _ e.in-Definition.is t.if-d-k.true _ d.definition_at.ensures _ s.requires.1.1.1

write-followed-requires-2 : tie.Need-write_followed-requires-2
write-followed-requires-2 c κs = followed c.before.before.before.before.before.before

same-length-3 : tie.Need-shape_of-numbers
same-length-3 c = search rules

returns-4 : tie.Need-returns
returns-4 c =
    let w = c in
    laid w.before.before.before.before.before.before.before.before.before _ w.write_followed-2.ensures

pub write_oid_spec : {M : Type 1} → statement M
write_oid_spec =
    tie.close
    (tie.spec
    definition-at-requires
    has-value-requires
    returns
    head-of-requires
    enum-known-head
    write-followed-requires
    same_length
    returns-2
    definition-at-requires-2
    write-behind-requires
    same-length-2
    returns-3
    write-followed-requires-2
    same-length-3
    returns-4)
