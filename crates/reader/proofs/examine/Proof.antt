-- `examine` is right: the tests of the buffers and of the text, then the working parts.
-- Assumes nothing.
use mathlib.Core.Path.{sym, ◌∙◌}
use mathlib.Core.Logic.{inl, inr}
use native.Mathlib.Omega.{arith}
use lib.ListN.{length-take}
use Rattle.reader.proofs.Ends.{ends_short, ends_long, ends_read}
use borrow.Author.Rules.{rules}
use Rattle.reader.proofs.examine.Statement.{statement}
use Rattle.reader.proofs.examine.Tie as tie

refuse-requires : tie.Need-refuse-requires
refuse-requires c κs = search rules

returns : tie.Need-returns-then-records-lt-RECORD_WORDS
returns c = rw c.refuse.ensures (ends_short _ _ _ (inl c.if-records-lt-RECORD_WORDS.true))

refuse-requires-2 : tie.Need-refuse-requires-then-numbers-lt-NUMBER_WORDS
refuse-requires-2 c κs = search rules

returns-2 : tie.Need-returns-then-numbers-lt-NUMBER_WORDS
returns-2 c = rw c.refuse-then-numbers-lt-NUMBER_WORDS.ensures (ends_short _ _ _ (inr c.if-numbers-lt-NUMBER_WORDS.true))

refuse-requires-3 : tie.Need-refuse-requires-then-text-gt-LONGEST_TEXT
refuse-requires-3 c κs = search rules

returns-3 : tie.Need-returns-then-text-gt-LONGEST_TEXT
returns-3 c = rw c.refuse-then-text-gt-LONGEST_TEXT.ensures (ends_long _ _ _ (omega (arith, c.if-records-lt-RECORD_WORDS.false)) (omega (arith, c.if-numbers-lt-NUMBER_WORDS.false)) c.if-text-gt-LONGEST_TEXT.true)

slice-relend-prefix-read-parts : tie.Need-slice_bounds-read_parts-end
slice-relend-prefix-read-parts c = search rules

slice-aggregate-read-parts : tie.Need-slice_bounds-read_parts-end-2
slice-aggregate-read-parts c =
    let s = c in
    sym (length-take 5120 s.args.records.now ∙ omega (arith, c.if-records-lt-RECORD_WORDS.false))

slice-relend-prefix-read-parts-2 : tie.Need-slice_bounds-read_parts-end-3
slice-relend-prefix-read-parts-2 c = search rules

slice-aggregate-read-parts-2 : tie.Need-slice_bounds-read_parts-end-4
slice-aggregate-read-parts-2 c =
    let s = c in
    sym (length-take 8192 s.args.numbers.now ∙ omega (arith, c.if-numbers-lt-NUMBER_WORDS.false))

read-parts-requires : tie.Need-read_parts-requires
read-parts-requires c κs =
    let s = c in (
      omega (arith, c.if-text-gt-LONGEST_TEXT.false),
      (length-take 5120 s.args.records.now ∙ omega (arith, c.if-records-lt-RECORD_WORDS.false), length-take 8192 s.args.numbers.now ∙ omega (arith, c.if-numbers-lt-NUMBER_WORDS.false)),
    )

same_length : tie.Need-shape_of-records
same_length c = search rules

same-length-2 : tie.Need-shape_of-numbers
same-length-2 c = search rules

returns-4 : tie.Need-returns
returns-4 c =
    let r = c in
    ends_read _ _ _ (omega (arith, r.if-records-lt-RECORD_WORDS.false)) (omega (arith, r.if-numbers-lt-NUMBER_WORDS.false)) _ _ _ (omega (arith, r.if-text-gt-LONGEST_TEXT.false)) r.read_parts.ensures

pub examine_spec : {M : Type 1} → statement M
examine_spec =
    tie.close
    (tie.spec
    refuse-requires
    returns
    refuse-requires-2
    returns-2
    refuse-requires-3
    returns-3
    slice-relend-prefix-read-parts
    slice-aggregate-read-parts
    slice-relend-prefix-read-parts-2
    slice-aggregate-read-parts-2
    read-parts-requires
    same_length
    same-length-2
    returns-4)
