-- The cut is stuck before the hint's end, or nowhere.
-- Assumes nothing.
use Rattle.std.proofs.Common.{sym, ap, ◌∙◌, Some}
use Rattle.character.proofs.CutLaws.{stuck_below, stuck_there}
use Rattle.hint_form.specs.Fault.{length_fault}
use Rattle.hint_form.proofs.fault.pieces_fault.Goals as goal

pub returns-in_err-i : goal.returns-in_err-i
unfolding Rattle.hint_form.specs.Fault.pieces_fault
returns-in_err-i c = rw (← c.first_stuck.ensures, c.in_err-i.was) c.from_residual.ensures

pub length_place-requires : goal.length_place-requires
length_place-requires c = stuck_below _ _ _ (stuck_there _ _ (sym c.first_stuck.ensures ∙ c.in_ok-i.was))

pub returns : goal.returns
unfolding Rattle.hint_form.specs.Fault.pieces_fault
returns c =
    rw (← c.first_stuck.ensures, c.in_ok-i.was)
    (ap Some (c.length_fault.ensures ∙ ap (length_fault c.args.hint.now) c.length_place.ensures))
