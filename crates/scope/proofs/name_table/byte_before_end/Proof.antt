-- `byte_before_end` is right because a part of the text has its own bytes.
-- Assumes nothing.
use Rattle.scope.proofs.Tags.{no_byte, first_byte, byte_back}
use borrow.Author.Rules.{rules}
use Rattle.scope.proofs.name_table.byte_before_end.Statement.{statement}
use Rattle.scope.proofs.name_table.byte_before_end.Tie as tie

returns : tie.Need-returns-then-start-end
returns c = no_byte _ _ _ _ c.requires.0 c.if-start-end.true

sub-if2 : tie.Need-overflow_sub-end
sub-if2 c = search rules

shared-slice-read-result : tie.Need-bounds-text-start
shared-slice-read-result c = search rules

returns-2 : tie.Need-returns-then-end-start
returns-2 c = let s = c in first_byte _ _ _ _ s.requires.0 c.if-start-end.false c.if-end-start.true

sub-result : tie.Need-overflow_sub-result
sub-result c = search rules

shared-slice-read-result-2 : tie.Need-bounds-text-end
shared-slice-read-result-2 c = search rules

returns-3 : tie.Need-returns
returns-3 c = let s = c in byte_back _ _ _ _ s.requires.0 c.if-start-end.false s.requires.1 c.if-end-start.false

pub byte_before_end_spec : {M : Type 1} → statement M
byte_before_end_spec =
    tie.close
    (tie.spec
    returns
    sub-if2
    shared-slice-read-result
    returns-2
    sub-result
    shared-slice-read-result-2
    returns-3)
