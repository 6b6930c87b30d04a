-- `word_at` is right: past the last word it is 0.
-- Assumes nothing.
use Prim.Native.Nat.{ℕ}
use lib.ListN.{get_or-eq_default}
use borrow.Author.Rules.{rules}
use Rattle.sub_type.proofs.number.word_at.Statement.{statement}
use Rattle.sub_type.proofs.number.word_at.Tie as tie

mul-result : tie.Need-offset_bounds-words-i
mul-result c = search rules

shared-slice-read-result : tie.Need-bounds-words-i
shared-slice-read-result c = search rules

returns : tie.Need-returns-then-i-words
returns c = search rules

returns-2 : tie.Need-returns
returns-2 c = rw (get_or-eq_default {A = ℕ} _ 0 c.if-i-words.false)

pub word_at_spec : {M : Type 1} → statement M
word_at_spec = tie.close (tie.spec
    mul-result
    shared-slice-read-result
    returns
    returns-2)
