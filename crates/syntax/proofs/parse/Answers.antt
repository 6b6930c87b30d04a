-- `syntax::parse` meets its contract: the cut refuses, or its table goes to the grammar, whose verdict is the right one.
-- Assumes nothing.
use Rattle.std.proofs.Common.{◌∙◌, ap, Err}
use Rattle.std.proofs.lemmas.Result.{err_from_is_err_and}
use Rattle.piece.specs.Found.{number, numbered}
use Rattle.syntax.proofs.Parsed.{uncut_parses, judged_parses}
use Rattle.syntax.proofs.parse.Goals as goal

pub returns-in_err-count-clause-table : goal.returns-in_err-count-clause-table
returns-in_err-count-clause-table c =
    let p = err_from_is_err_and c.from_residual.result c.from_residual.ensures.1 in
    let refusal = c.in_err-count.field-0.0 in
    rw (p.1 ∙ ap Err p.2)
    (uncut_parses _ _ _ _ _ _ _ _ c.requires c.cut.ensures (number refusal.cause) refusal.place.0 (ap numbered c.in_err-count.was)).1

pub returns-clause-right : goal.returns-clause-right
returns-clause-right c =
    (judged_parses _ _ _ _ _ _ _ _ c.requires c.cut.ensures c.in_ok-count.count _ (ap numbered c.in_ok-count.was) c.judge.ensures).0

pub returns-clause-table : goal.returns-clause-table
returns-clause-table c =
    (judged_parses _ _ _ _ _ _ _ _ c.requires c.cut.ensures c.in_ok-count.count _ (ap numbered c.in_ok-count.was) c.judge.ensures).1
