-- `bit_byte` is right by its two cases.
-- Assumes nothing.
use borrow.Author.Tests.{lt-ltb, le-ltb}
use native.Mathlib.Omega.{arith}
use borrow.Author.Rules.{rules}
use Rattle.bit_tree.proofs.bit_byte.Statement.{statement}
use Rattle.bit_tree.proofs.bit_byte.Tie as tie

sub-result : tie.Need-overflow_sub-result
sub-result c = search rules

returns : tie.Need-returns-then-d-lt8
returns c = (simp (lt-ltb c.args.d 8 c.if-d-lt8.true), omega (arith, c.requires))

sub-result-2 : tie.Need-overflow_sub-result-2
sub-result-2 c = search rules

returns-2 : tie.Need-returns
returns-2 c = (simp (le-ltb c.args.d 8 c.if-d-lt8.false), omega (arith, c.requires, c.if-d-lt8.false))

pub bit_byte_spec : {M : Type 1} → statement M
bit_byte_spec = tie.close (tie.spec
    sub-result
    returns
    sub-result-2
    returns-2)
