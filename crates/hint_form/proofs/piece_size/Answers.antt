-- A piece that is found has as many bytes as lie before its end.
-- Assumes nothing.
use Rattle.std.proofs.Common.{arith}
use Rattle.hint_form.proofs.HintLaws.{found_whole, found_nothing, piece_end_after, piece_size_some, piece_size_none}
use Rattle.hint_form.proofs.piece_size.Goals as goal

pub overflow_sub-result : goal.overflow_sub-result
overflow_sub-result c =
    let h = c.args.hint.now in
    let i = c.args.i in
    omega (arith, (found_whole h i _ _ c.in-Some.ensures).2, piece_end_after h i)

pub returns-in-Some : goal.returns-in-Some
returns-in-Some c =
    let h = c.args.hint.now in
    let i = c.args.i in
    let is = found_whole h i _ _ c.in-Some.ensures in
    omega (arith, is.2, piece_size_some h i is.0)

pub returns-in-None : goal.returns-in-None
returns-in-None c =
    let h = c.args.hint.now in
    let i = c.args.i in
    omega (arith, piece_size_none h i (found_nothing h i c.in-None.ensures))
