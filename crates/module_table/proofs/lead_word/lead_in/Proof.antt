-- `lead_in` is right by its tests, in the definition's order.
-- Assumes nothing.
use borrow.Author.Tests.{eq-eqb, ne_eqb, lt-ltb, le-ltb}
use Rattle.module_table.specs.Lead.{lead_in}
use borrow.Author.Rules.{rules}
use Rattle.module_table.proofs.lead_word.lead_in.Statement.{statement}
use Rattle.module_table.proofs.lead_word.lead_in.Tie as tie

returns : tie.Need-returns-then-word-eq-NOTHING
unfolding lead_in
returns c = simp (eq-eqb c.args.word 0 c.if-word-eq-NOTHING.true)

returns-2 : tie.Need-returns-then-word-eq-ISO
unfolding lead_in
returns-2 c =
    let s = c in
    simp (ne_eqb s.args.word 0 c.if-word-eq-NOTHING.false, eq-eqb s.args.word 1 c.if-word-eq-ISO.true)

sub-t3 : tie.Need-overflow_sub-result
sub-t3 c = search rules

cast-t4 : tie.Need-overflow_cast-result
cast-t4 c = search rules

returns-3 : tie.Need-returns-then-word-lt-SYMBOL
unfolding lead_in
returns-3 c =
    let s = c in
    simp (ne_eqb s.args.word 0 c.if-word-eq-NOTHING.false, ne_eqb s.args.word 1 c.if-word-eq-ISO.false, lt-ltb s.args.word 514 c.if-word-lt-SYMBOL.true)

cast-t7 : tie.Need-overflow_cast-result-2
cast-t7 c = search rules

returns-4 : tie.Need-returns
unfolding lead_in
returns-4 c =
    let s = c in
    simp (ne_eqb s.args.word 0 c.if-word-eq-NOTHING.false, ne_eqb s.args.word 1 c.if-word-eq-ISO.false, le-ltb s.args.word 514 c.if-word-lt-SYMBOL.false)

pub lead_in_spec : {M : Type 1} → statement M
lead_in_spec = tie.close (tie.spec
    returns
    returns-2
    sub-t3
    cast-t4
    returns-3
    cast-t7
    returns-4)
