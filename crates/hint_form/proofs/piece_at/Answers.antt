-- Each part that is read is the one that the definition names.
-- Assumes nothing.
use Rattle.std.proofs.Common.{◌≡◌, true, false, sym, ◌∙◌, arith}
use Rattle.hint_form.specs.Hint.{is_piece, piece_end}
use Rattle.hint_form.proofs.HintLaws.{length_place_near, format_near, mark_size_small}
use Rattle.hint_form.proofs.piece_at.Goals as goal

pub number_at-number-requires : goal.number_at-number-requires
number_at-number-requires c = omega (arith, c.length_place-start.ensures, length_place_near c.args.hint.now c.args.i, c.well_formed)

pub returns-then-not-is_allowed : goal.returns-then-not-is_allowed
unfolding Rattle.hint_form.specs.Hint.found is_piece Rattle.hint_form.specs.Hint.bounded Rattle.hint_form.specs.Hint.format_place
returns-then-not-is_allowed c =
    let h = c.args.hint.now in
    let none : is_piece h c.args.i ≡ false =
    simp (
      c.longest_of.ensures,
      c.byte_at.ensures,
      c.byte_at-format.ensures,
      c.number_at-number.ensures,
      c.length_place-start.ensures,
    ) at (sym c.is_allowed.ensures ∙ c.if-not-is_allowed.true) in
    rw none

pub overflow_add-place : goal.overflow_add-place
overflow_add-place c =
    omega (arith, format_near c.args.hint.now c.args.i _ _ c.length_place-start.ensures c.number_at-number.ensures, c.well_formed)

pub overflow_add-place-2 : goal.overflow_add-place-2
overflow_add-place-2 c =
    omega (arith, format_near c.args.hint.now c.args.i _ _ c.length_place-start.ensures c.number_at-number.ensures, c.well_formed)

pub overflow_add-next : goal.overflow_add-next
overflow_add-next c =
    omega (arith, format_near c.args.hint.now c.args.i _ _ c.length_place-start.ensures c.number_at-number.ensures, c.well_formed)

pub overflow_add-next-2 : goal.overflow_add-next-2
overflow_add-next-2 c =
    let one = mark_size_small c.mark_at-separator.result in
    omega (arith, format_near c.args.hint.now c.args.i _ _ c.length_place-start.ensures c.number_at-number.ensures, c.well_formed)

pub overflow_add-next-3 : goal.overflow_add-next-3
overflow_add-next-3 c =
    let one = mark_size_small c.mark_at-separator.result in
    let two = mark_size_small c.terminator_at-terminator.result in
    omega (arith, format_near c.args.hint.now c.args.i _ _ c.length_place-start.ensures c.number_at-number.ensures, c.well_formed)

pub returns : goal.returns
unfolding Rattle.hint_form.specs.Hint.found Rattle.hint_form.specs.Hint.piece_at piece_end is_piece Rattle.hint_form.specs.Hint.bounded Rattle.hint_form.specs.Hint.format_place Rattle.hint_form.specs.Hint.separator_of Rattle.hint_form.specs.Hint.terminator_of
returns c =
    let some : is_piece c.args.hint.now c.args.i ≡ true =
    simp (
      c.longest_of.ensures,
      c.byte_at.ensures,
      c.byte_at-format.ensures,
      c.number_at-number.ensures,
      c.length_place-start.ensures,
    ) at (sym c.is_allowed.ensures ∙ c.if-not-is_allowed.false) in
    rw some
    (simp (
      c.mark_size.ensures,
      c.mark_size-2.ensures,
      c.terminator_at-terminator.ensures,
      c.mark_at-separator.ensures,
      c.is_starred-starred.ensures,
      c.byte_at-format.ensures,
      c.number_at-number.ensures,
      c.length_place-start.ensures,
    ))
