-- `same_spelling` is right because spellings of different lengths are not the same.
-- Assumes nothing.
use Rattle.std.proofs.Common.{◌-◌, ◌∙◌, sym}
use borrow.Author.Tests.{ne_eqb}
use Rattle.lexicon.proofs.Words.{same_length, between_length}
use Rattle.lexicon.proofs.word.same_spelling.Goals as goal

pub returns-else-n-end : goal.returns-else-n-end
returns-else-n-end c =
    let one = between_length _ _ _ c.requires.in_a in
    let other = between_length _ _ _ c.requires.in_b in
    ne_eqb _ _ c.if-n-end.false ∙ sym (same_length _ _ (λ e. c.if-n-end.false (sym one ∙ e ∙ other)))
