-- `bit` is right because a number is shifted by less than its bits.
-- Assumes nothing.
use borrow.Author.Tests.{lt-ltb, le-ltb}
use borrow.Author.Rules.{rules}
use Rattle.bit_tree.proofs.bit.Statement.{statement}
use Rattle.bit_tree.proofs.bit.Tie as tie

cast-result : tie.Need-overflow_cast-result
cast-result c = search rules

shr-result : tie.Need-overflow_shr-result
shr-result c = search rules

returns : tie.Need-returns-then-d-lt32
returns c = simp (lt-ltb c.args.d 32 c.if-d-lt32.true)

returns-2 : tie.Need-returns
returns-2 c = simp (le-ltb c.args.d 32 c.if-d-lt32.false)

pub bit_spec : {M : Type 1} → statement M
bit_spec = tie.close (tie.spec
    cast-result
    shr-result
    returns
    returns-2)
