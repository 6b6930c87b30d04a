-- A byte is written where there is one.
-- Assumes nothing.
use Rattle.std.proofs.Common.{length, ap, sym, arith}
use Rattle.buffer.proofs.Writing.{wrote_as, wrote_none}
use Rattle.hint_piece.specs.Use.{optional}
use Rattle.hint_piece.proofs.put_optional.Goals as goal

pub put-requires : goal.put-requires
unfolding optional
put-requires c = let long = ap (λ o. length (optional o)) c.in-Some.is in omega (arith, c.requires)

pub returns-in-Some : goal.returns-in-Some
unfolding optional
returns-in-Some c = wrote_as (sym (ap optional c.in-Some.is)) c.put.ensures

pub returns-in-None : goal.returns-in-None
unfolding optional
returns-in-None c = wrote_as (sym (ap optional c.in-None.is)) (wrote_none c.args.out.now c.args.at)
