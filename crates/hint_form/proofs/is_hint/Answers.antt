-- A hint of 1 to 255 bytes is pieces where its cut is stuck nowhere.
-- Assumes nothing.
use Rattle.std.proofs.Common.{◌≡◌, ◌≤◌, ◌<◌, ◌⊎◌, length, sym, ap, ◌∙◌, arith}
use Rattle.std.proofs.lemmas.Grind.{common_steps}
use Rattle.hint_form.proofs.FaultLaws.{none_outside}
use Rattle.hint_form.proofs.HintLaws.{nowhere, none_nowhere, pieces_whole}
use Rattle.hint_form.proofs.is_hint.Goals as goal

pub returns-then-contains : goal.returns-then-contains
returns-then-contains c =
    let h = c.args.hint.now in
    let low : 1 ≤ length h = grind (arith, common_steps) in
    let high : length h ≤ 255 = grind (arith, common_steps) in
    none_nowhere c.first_stuck.result c.is_none.result c.is_none.ensures ∙ ap nowhere c.first_stuck.ensures ∙ sym (pieces_whole h low high)

pub returns-else-contains : goal.returns-else-contains
returns-else-contains c =
    let h = c.args.hint.now in
    let out : (length h ≡ 0) ⊎ (255 < length h) = grind (arith, common_steps) in
    c.if-contains.false ∙ sym (none_outside h out)
