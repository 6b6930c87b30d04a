-- Each piece has seven bytes at most.
-- Assumes nothing.
use Rattle.std.proofs.Common.{rules, arith}
use Rattle.hint_form.proofs.HintLaws.{piece_size_small}
use Rattle.hint_form.proofs.first_stuck.Goals as goal

pub first_stuck-requires : goal.first_stuck-requires
first_stuck-requires c κs within = (search rules, (search rules, (search rules, λ i h. omega (arith, piece_size_small c.args.hint.now i, c.well_formed))))
