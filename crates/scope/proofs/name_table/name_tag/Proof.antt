-- `name_tag` is right by its bytes.
-- Assumes nothing.
use Rattle.lexicon.proofs.Words.{between_length}
use Rattle.scope.specs.Tag.{name_tag}
use borrow.Author.Rules.{rules}
use Rattle.scope.proofs.name_table.name_tag.Statement.{statement}
use Rattle.scope.proofs.name_table.name_tag.Tie as tie

sub-n : tie.Need-overflow_sub-n
sub-n c = search rules

byte-before-end-requires : tie.Need-byte_before_end-last-requires
byte-before-end-requires c κs = search rules

byte-before-end-requires-2 : tie.Need-byte_before_end-second-requires
byte-before-end-requires-2 c κs = search rules

byte-before-end-requires-3 : tie.Need-byte_before_end-third-requires
byte-before-end-requires-3 c κs = search rules

cast-result : tie.Need-overflow_cast-result
cast-result c = search rules

mul-result : tie.Need-overflow_mul-result
mul-result c = search rules

cast-result-2 : tie.Need-overflow_cast-result-2
cast-result-2 c = search rules

mul-result-2 : tie.Need-overflow_mul-result-2
mul-result-2 c = search rules

add-result : tie.Need-overflow_add-result
add-result c = search rules

cast-result-3 : tie.Need-overflow_cast-result-3
cast-result-3 c = search rules

mul-result-3 : tie.Need-overflow_mul-result-3
mul-result-3 c = search rules

add-result-2 : tie.Need-overflow_add-result-2
add-result-2 c = search rules

cast-result-4 : tie.Need-overflow_cast-result-4
cast-result-4 c = search rules

add-result-3 : tie.Need-overflow_add-result-3
add-result-3 c = search rules

returns : tie.Need-returns
unfolding name_tag
returns c =
    let s = c in
    rw (c.byte_before_end-last.ensures, c.byte_before_end-second.ensures, c.byte_before_end-third.ensures, between_length _ _ _ s.requires)

pub name_tag_spec : {M : Type 1} → statement M
name_tag_spec =
    tie.close
    (tie.spec
    sub-n
    byte-before-end-requires
    byte-before-end-requires-2
    byte-before-end-requires-3
    cast-result
    mul-result
    cast-result-2
    mul-result-2
    add-result
    cast-result-3
    mul-result-3
    add-result-2
    cast-result-4
    add-result-3
    returns)
