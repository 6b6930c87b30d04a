-- Each character has four octets at most.
-- Assumes nothing.
use Rattle.std.proofs.Common.{rules, arith}
use Rattle.character.proofs.CharacterLaws.{character_small}
use Rattle.character.proofs.first_fault.Goals as goal

pub first_stuck-requires : goal.first_stuck-requires
first_stuck-requires c κs within = (search rules, (search rules, (search rules, λ i h. omega (arith, character_small c.args.format c.args.s.now i, c.well_formed))))
