-- `syntax_tokens` is right by its test.
-- Assumes nothing.
use borrow.Author.Rules.{rules}
use Rattle.records.proofs.syntax_tokens.Statement.{statement}
use Rattle.records.proofs.syntax_tokens.Tie as tie

cast-if1 : tie.Need-overflow_cast-t-2
cast-if1 c = search rules

cast-if1-2 : tie.Need-overflow_cast-t-4
cast-if1-2 c = search rules

returns : tie.Need-returns-then-d
returns c = simp c.if-d.true

returns-2 : tie.Need-returns
returns-2 c = simp c.if-d.false

pub syntax_tokens_spec : {M : Type 1} → statement M
syntax_tokens_spec = tie.close (tie.spec
    cast-if1
    cast-if1-2
    returns
    returns-2)
