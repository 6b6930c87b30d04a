-- `cut` is right because each turn takes one piece, and what is stored with what is left stays the cut of the whole text.
-- Assumes nothing.
use Rattle.std.proofs.Common.{◌∙◌, sym, ap, refl, Ok, Err, arith}
use Rattle.piece.specs.Found.{number}
use Rattle.token.specs.Cut.{whole}
use Rattle.token.proofs.Left.{step_end}
use Rattle.token.proofs.Progress.{progress_start, progress_blank, progress_done, read_gap, read_token, read_refusal}
use Rattle.std.proofs.lemmas.Result.{err_from_is_err_and}
use Rattle.token.proofs.cut.Goals as goal

pub loop-at-init : goal.loop-at-init
loop-at-init c = progress_start _ _ _ _

pub loop-at-preserved-then-is_blank : goal.loop-at-preserved-then-is_blank
loop-at-preserved-then-is_blank c =
    progress_blank _ _ _ _ _ _ _ _ _ c.loop-at.invariant c.loop-at-test.true (sym c.is_blank.ensures ∙ c.if-is_blank.true)

pub returns-in_err-end : goal.returns-in_err-end
returns-in_err-end c =
    let p = err_from_is_err_and c.from_residual.result c.from_residual.ensures.1 in
    let field = c.in_err-end.field-0.0 in
    rw (p.1 ∙ ap Err p.2)
    (read_refusal _ _ _ _ _ _ _ _ _ c.loop-at.invariant c.loop-at-test.true c.requires (number field.cause) field.place.0 c.in_err-end.ensures)

pub loop-at-smaller-in-Gap : goal.loop-at-smaller-in-Gap
loop-at-smaller-in-Gap c =
    let read = read_gap _ _ _ _ _ _ _ _ _ c.loop-at.invariant c.loop-at-test.true _ c.in-Gap.end c.in_ok-end.ensures c.in-Gap.is in
    omega (arith, read.0, read.1.inside)

pub loop-at-preserved-in-Gap : goal.loop-at-preserved-in-Gap
loop-at-preserved-in-Gap c =
    (read_gap _ _ _ _ _ _ _ _ _ c.loop-at.invariant c.loop-at-test.true _ c.in-Gap.end c.in_ok-end.ensures c.in-Gap.is).1

pub overflow_cast-ends : goal.overflow_cast-ends
overflow_cast-ends c =
    let read = read_token _ _ _ _ _ _ _ _ _ c.loop-at.invariant c.loop-at-test.true _ c.in-Token.class c.in-Token.end c.in_ok-end.ensures c.in-Token.is in
    omega (arith, read.1.inside)

pub loop-at-smaller : goal.loop-at-smaller
loop-at-smaller c =
    let read = read_token _ _ _ _ _ _ _ _ _ c.loop-at.invariant c.loop-at-test.true _ c.in-Token.class c.in-Token.end c.in_ok-end.ensures c.in-Token.is in
    omega (arith, read.0, read.1.inside)

pub loop-at-preserved : goal.loop-at-preserved
loop-at-preserved c =
    (read_token _ _ _ _ _ _ _ _ _ c.loop-at.invariant c.loop-at-test.true _ c.in-Token.class c.in-Token.end c.in_ok-end.ensures c.in-Token.is).1

pub returns : goal.returns
returns c =
    let none = step_end c.args.text.now c.loop-at.at c.loop-at-test.false in
    progress_done _ _ _ _ _ _ _ _ _ c.loop-at.invariant c.requires whole none (Ok c.loop-at.n) refl
