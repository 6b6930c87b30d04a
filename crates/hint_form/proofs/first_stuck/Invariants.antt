-- The sizes that the items have are those of the pieces.
-- Assumes nothing.
use Rattle.hint_form.specs.Hint.{piece_size}
use Rattle.hint_form.proofs.first_stuck.Given as goal

abbrev pub ghost-first_stuck : goal.ghost-first_stuck
ghost-first_stuck a = piece_size a.size.now.0.now
