-- `definition_or` is right by its test.
-- Assumes nothing.
use borrow.Author.Tests.{eq-eqb, ne_eqb}
use borrow.Author.Rules.{rules}
use Rattle.table_check.proofs.against.definition_or.Statement.{statement}
use Rattle.table_check.proofs.against.definition_or.Tie as tie

returns : tie.Need-returns-then-number-eq0
returns c = rw (eq-eqb _ 0 c.if-number-eq0.true)

sub-t4 : tie.Need-overflow_sub-result
sub-t4 c = search rules

returns-2 : tie.Need-returns
returns-2 c = rw (ne_eqb _ 0 c.if-number-eq0.false)

pub definition_or_spec : {M : Type 1} → statement M
definition_or_spec = tie.close (tie.spec
    returns
    sub-t4
    returns-2)
