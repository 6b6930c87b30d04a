-- `record_of` is right: each word is its field.
-- Assumes nothing.
use Rattle.records.specs.Record.{record_of}
use borrow.Author.Rules.{rules}
use Rattle.records.proofs.record_of.Statement.{statement}
use Rattle.records.proofs.record_of.Tie as tie

place-at-requires : tie.Need-place_at-offset-requires
place-at-requires c κs = search rules

syntax-tokens-requires : tie.Need-syntax_tokens-requires
syntax-tokens-requires c κs = search rules

bytes-of-requires : tie.Need-bytes_of-syntax-requires
bytes-of-requires c κs = search rules

word-requires : tie.Need-word-requires
word-requires c κs = search rules

place-at-requires-2 : tie.Need-place_at-requires
place-at-requires-2 c κs = search rules

distance-requires : tie.Need-distance-requires
distance-requires c κs = search rules

word-requires-2 : tie.Need-word-requires-2
word-requires-2 c κs = search rules

word-requires-3 : tie.Need-word-requires-3
word-requires-3 c κs = search rules

word-requires-4 : tie.Need-word-requires-4
word-requires-4 c κs = search rules

word-requires-5 : tie.Need-word-requires-5
word-requires-5 c κs = search rules

word-requires-6 : tie.Need-word-requires-6
word-requires-6 c κs = search rules

returns : tie.Need-returns
unfolding record_of
returns c = cc

pub record_of_spec : {M : Type 1} → statement M
record_of_spec =
    tie.close
    (tie.spec
    place-at-requires
    syntax-tokens-requires
    bytes-of-requires
    word-requires
    place-at-requires-2
    distance-requires
    word-requires-2
    word-requires-3
    word-requires-4
    word-requires-5
    word-requires-6
    returns)
