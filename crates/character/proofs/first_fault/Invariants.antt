-- The sizes that the items have are those of the format's characters.
-- Assumes nothing.
use Rattle.character.specs.Character.{character_size}
use Rattle.character.proofs.first_fault.Given as goal

abbrev pub ghost-first_stuck : goal.ghost-first_stuck
ghost-first_stuck a = character_size a.size.0.now a.size.1.now
