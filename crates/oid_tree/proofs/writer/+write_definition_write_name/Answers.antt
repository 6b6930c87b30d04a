-- `write_name` and `write_definition` are right: the numbers of a definition are those of its head's name, with one head less to
-- follow, and behind them, in the rest that is lent, its parts'. A name's are those of what it leads to.
-- Assumes nothing.
use Rattle.std.proofs.Common.{◌≡◌, List, ◌++◌, ℕ, ◌≤◌, length, sym, ap, subst, ◌∙◌, arith, length-append}
use Rattle.module_table.specs.Module.{Module}
use Rattle.module_table.specs.declared.Lead.{Lead}
use Rattle.oid_number.specs.Number.{parts_in}
use Rattle.oid_head.specs.Oid.{named_in, reached_in, name_numbers, resolved_oid}
use Rattle.oid_tree.proofs.Steps.{reached_some, head_reached, own_step}
use Rattle.overlay.proofs.Writing.{second_room, written_both}
use Rattle.oid_tree.proofs.writer.+write_definition_write_name.Goals as goal
use Rattle.oid_tree.proofs.writer.+write_definition_write_name.Goals.{write_definition-After-head_of-head}

module _ {t : ℕ} where
  -- the module that the heads are followed in
  abbrev module_of : write_definition-After-head_of-head t → Module
  module_of h = named_in h.args.classes.now h.args.values.now h.args.definitions.now

  -- the numbers of the head's name, and of the parts
  abbrev head_numbers : write_definition-After-head_of-head t → List ℕ
  head_numbers h = name_numbers (resolved_oid (module_of h)) h.head_of-head.result

  abbrev own_numbers : write_definition-After-head_of-head t → List ℕ
  own_numbers h = parts_in h.args.classes.now h.args.values.now h.definition_at-own.result.oid

  -- the two are the definition's
  both : (h : write_definition-After-head_of-head t) → resolved_oid (module_of h) h.args.d.0 ≡ head_numbers h ++ own_numbers h
  both h = own_step (module_of h) h.args.left h.args.d h.requires.reached _ h.definition_at-own.ensures _ h.head_of-head.ensures

  both_room : (h : write_definition-After-head_of-head t) → length (head_numbers h ++ own_numbers h) ≤ length h.args.numbers.now
  both_room h = omega (arith, ap length (both h), h.requires.room)

pub write_definition-returns-then-left-eq0 : goal.write_definition-returns-then-left-eq0
write_definition-returns-then-left-eq0 t c =
    let m = named_in c.args.classes.now c.args.values.now c.args.definitions.now in
    absurd (reached_some m c.args.left c.args.d c.requires.reached _ c.definition_at-own.ensures c.if-left-eq0.true)

pub write_definition-write_name-count-requires : goal.write_definition-write_name-count-requires
write_definition-write_name-count-requires t c =
    let h = (goal.at.write_definition-write_name-count-requires t c).After-head_of-head in (
      omega (arith, c.decreases, c.if-left-eq0.false),
      (
        head_reached (module_of h) h.args.left h.args.d h.requires.reached _ h.definition_at-own.ensures _ h.head_of-head.ensures,
        omega (arith, length-append (head_numbers h) (own_numbers h), both_room h),
      ),
    )

pub write_definition-write_parts-requires : goal.write_definition-write_parts-requires
write_definition-write_parts-requires t c =
    let h = (goal.at.write_definition-write_parts-requires t c).After-head_of-head in
    second_room (head_numbers h) (own_numbers h) _ _ _ (both_room h) c.write_name-count.ensures

pub write_definition-returns : goal.write_definition-returns
write_definition-returns t c =
    let h = (goal.at.write_definition-returns t c).After-head_of-head in
    rw (both h) (written_both (head_numbers h) (own_numbers h) _ _ _ (both_room h) c.write_name-count.ensures _ _ c.write_parts.ensures)

pub write_name-write_definition-requires : goal.write_name-write_definition-requires
write_name-write_definition-requires t c =
    let m = named_in c.args.classes.now c.args.values.now c.args.definitions.now in
    let e = c.in-Definition.is in (
      omega (arith, c.decreases),
      (
        sym (ap (reached_in m c.args.left) e) ∙ c.requires.reached,
        subst (λ (x : Lead). length (name_numbers (resolved_oid m) x) ≤ length c.args.numbers.now) e c.requires.room,
      ),
    )
