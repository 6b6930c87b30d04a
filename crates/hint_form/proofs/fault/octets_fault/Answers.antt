-- A hint of 1 to 255 bytes has the fault of its pieces; any other has one.
-- Assumes nothing.
use Rattle.std.proofs.Common.{sym, ap, ◌∙◌, Some, arith}
use lib.Seq.{length-take-le}
use borrow.Author.Tests.{le-leb, lt-leb, eqb-true, eqb-false}
use Rattle.hint_form.specs.Fault.{octets_fault, longer, is_sound}
use Rattle.hint_form.proofs.FaultLaws.{sound_short, none_empty, none_long}
use Rattle.hint_form.proofs.fault.octets_fault.Goals as goal

pub returns-then-is_empty-clause-fault : goal.returns-then-is_empty-clause-fault
unfolding octets_fault
returns-then-is_empty-clause-fault c = simp (sym c.is_empty.ensures ∙ c.if-is_empty.true)

pub returns-then-is_empty-clause-told : goal.returns-then-is_empty-clause-told
returns-then-is_empty-clause-told c = sym (none_empty _ (eqb-true _ _ (sym c.is_empty.ensures ∙ c.if-is_empty.true)))

pub returns-then-hint-le-LONGEST-clause-fault : goal.returns-then-hint-le-LONGEST-clause-fault
unfolding octets_fault
returns-then-hint-le-LONGEST-clause-fault c =
    simp (sym c.is_empty.ensures ∙ c.if-is_empty.false, le-leb _ _ c.if-hint-le-LONGEST.true) c.pieces_fault.ensures

pub returns-then-hint-le-LONGEST-clause-told : goal.returns-then-hint-le-LONGEST-clause-told
returns-then-hint-le-LONGEST-clause-told c =
    ap is_sound c.pieces_fault.ensures ∙ sound_short c.args.hint.now (omega (arith, eqb-false _ _ (sym c.is_empty.ensures ∙ c.if-is_empty.false))) c.if-hint-le-LONGEST.true

pub slice_bounds-pieces_fault-end : goal.slice_bounds-pieces_fault-end
slice_bounds-pieces_fault-end c = sym (length-take-le 255 c.args.hint.now (omega arith))

pub returns-clause-fault : goal.returns-clause-fault
unfolding octets_fault
returns-clause-fault c =
    simp (sym c.is_empty.ensures ∙ c.if-is_empty.false, lt-leb _ _ c.if-hint-le-LONGEST.false)
    (ap Some (c.longer.ensures ∙ ap longer c.pieces_fault-2.ensures))

pub returns-clause-told : goal.returns-clause-told
returns-clause-told c = sym (none_long _ (omega arith))
