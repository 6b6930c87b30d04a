-- The pair is right: a definition has the numbers of its head and its own parts, and one that is known says how many it has.
-- Assumes nothing.
use Rattle.std.proofs.Common.{◌≡◌, ℕ, ◌+◌, length, sym, ap, ◌∙◌, arith}
use Rattle.symbol.specs.Symbol.{iso_oid}
use Rattle.module_table.specs.declared.Lead.{Lead}
use Rattle.oid_head.specs.Oid.{named_in, reached_in, name_numbers, resolved_oid}
use Rattle.oid_tree.proofs.Lengths.{oid_few}
use Rattle.oid_tree.proofs.Steps.{reached_some, head_reached, step_length, known_length}
use Rattle.oid_tree.proofs.length.+definition_length_name_length.Goals as goal
use Rattle.oid_tree.proofs.length.+definition_length_name_length.Goals.{definition_length-After-count_parts}

-- the head's numbers and the parts
added : (t : ℕ) (c : definition_length-After-count_parts t)
    → c.name_length-count.result + c.count_parts.result
    ≡ length (resolved_oid (named_in c.args.classes.now c.args.values.now c.args.definitions.now) c.args.d.0)
added t c =
    let m = named_in c.args.classes.now c.args.values.now c.args.definitions.now in
    step_length m c.args.left c.args.d c.requires.reached _ c.definition_at-own.ensures _ c.head_of-head.ensures _ _ c.name_length-count.ensures c.count_parts.ensures

pub definition_length-returns-then-d-known : goal.definition_length-returns-then-d-known
definition_length-returns-then-d-known t c =
    let m = named_in c.args.classes.now c.args.values.now c.args.definitions.now in
    known_length m c.args.left c.args.d c.requires.reached _ c.definition_at-own.ensures _ c.requires.countable c.if-d-known.true

pub definition_length-returns-then-left-eq0 : goal.definition_length-returns-then-left-eq0
definition_length-returns-then-left-eq0 t c =
    let m = named_in c.args.classes.now c.args.values.now c.args.definitions.now in
    absurd (reached_some m c.args.left c.args.d c.requires.reached _ c.definition_at-own.ensures c.if-left-eq0.true)

pub definition_length-name_length-count-requires :
    goal.definition_length-name_length-count-requires
definition_length-name_length-count-requires t c =
    let m = named_in c.args.classes.now c.args.values.now c.args.definitions.now in
    let reached = head_reached m c.args.left c.args.d c.requires.reached _ c.definition_at-own.ensures _ c.head_of-head.ensures in
    (omega (arith, c.decreases, c.if-left-eq0.false), (c.requires.countable, reached))

pub definition_length-overflow_add-result : goal.definition_length-overflow_add-result
definition_length-overflow_add-result t c =
    let m = named_in c.args.classes.now c.args.values.now c.args.definitions.now in
    omega (arith, added t c, oid_few m c.requires.countable.short c.requires.countable.few c.args.d.0)

pub definition_length-returns : goal.definition_length-returns
definition_length-returns t c = added t c

pub name_length-definition_length-requires : goal.name_length-definition_length-requires
name_length-definition_length-requires t c =
    let m = named_in c.args.classes.now c.args.values.now c.args.definitions.now in (
      omega (arith, c.decreases),
      (c.requires.countable, sym (ap (reached_in m c.args.left) c.in-Definition.is) ∙ c.requires.reached),
    )

pub name_length-returns-in-Iso : goal.name_length-returns-in-Iso
unfolding iso_oid
name_length-returns-in-Iso t c =
    let m = named_in c.args.classes.now c.args.values.now c.args.definitions.now in
    sym (ap (λ (l : Lead). length (name_numbers (resolved_oid m) l)) c.in-Iso.is)
