-- `part_of` is right: what there is of a part is the part.
-- Assumes nothing.
use Rattle.enumeration.proofs.Labels.{part_within, part_cut}
use mathlib.Core.Path.{◌∙◌}
use borrow.Author.Rules.{rules}
use Rattle.enumeration.proofs.label.part_of.Statement.{statement}
use Rattle.enumeration.proofs.label.part_of.Tie as tie

word-at-requires : tie.Need-word_at-requires
word-at-requires c κs = search rules

wide-requires : tie.Need-wide-requires
wide-requires c κs = search rules

lesser-requires : tie.Need-lesser-end-requires
lesser-requires c κs = search rules

word-at-requires-2 : tie.Need-word_at-requires-2
word-at-requires-2 c κs = search rules

wide-requires-2 : tie.Need-wide-requires-2
wide-requires-2 c κs = search rules

lesser-requires-2 : tie.Need-lesser-start-requires
lesser-requires-2 c κs = search rules

returns : tie.Need-returns
returns c =
    let end = c in
    let s = end in
    let to = end.wide.ensures ∙ end.word_at.ensures in
    let from = c.wide-2.ensures ∙ c.word_at-2.ensures in
    rw (c.lesser-start.ensures, end.lesser-end.ensures, to, from) (part_within s.args.text.now _ _, part_cut s.args.text.now _ _)

pub part_of_spec : {M : Type 1} → statement M
part_of_spec =
    tie.close
    (tie.spec
    word-at-requires
    wide-requires
    lesser-requires
    word-at-requires-2
    wide-requires-2
    lesser-requires-2
    returns)
