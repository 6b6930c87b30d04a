-- `read_parts` is right: the parts are cleared before, and the number buffer after a refusal again.
-- Assumes nothing.
use mathlib.Core.Path.{ap, ◌∙◌}
use Rattle.reader.specs.Buffers.{zeros}
use Rattle.reader.proofs.Parts.{parts_accepted, parts_refused}
use borrow.Author.Rules.{rules}
use Rattle.reader.proofs.read_parts.Statement.{statement}
use Rattle.reader.proofs.read_parts.Tie as tie

abbrev start : tie.After-read_into-examined → tie.Start
start r = r.before.before.before.before.before.before.before.before.before.before.before.before.before.before

abbrev cleared : tie.After-read_into-examined → tie.After-clear
cleared r = r.before.before.before.before.before.before.before.before.before

abbrev cleared_numbers : tie.After-read_into-examined → tie.After-clear-2
cleared_numbers r = r.before.before.before.before.before

clear-requires : tie.Need-clear-requires
clear-requires c κs = search rules

clear-requires-2 : tie.Need-clear-requires-2
clear-requires-2 c κs = search rules

read-into-requires : tie.Need-read_into-examined-requires
read-into-requires c κs = search rules

enum_told : tie.Need-enum_told-1
enum_told c = search rules

enum-told-2 : tie.Need-enum_told-in_default
enum-told-2 c = search rules

clear-requires-3 : tie.Need-clear-requires-in_default
clear-requires-3 c κs = search rules

same_length : tie.Need-shape_of-records-in_default
same_length c = search rules

same-length-2 : tie.Need-shape_of-numbers-in_default
same-length-2 c = search rules

returns : tie.Need-returns-in_default
returns c =
    let r = c in
    let s = start r.before.before.before.before.before.before.before.before.before in
    parts_refused _ r.read_into-examined.result _ _ _ _ r.read_into-examined.ensures _ _ c.in_default.is
    ((cleared r.before.before.before.before.before.before.before.before.before).clear.ensures ∙ ap zeros s.requires.1.0)
    (c.clear-in_default.ensures ∙ ap zeros (r.read_into-examined.auto.numbers ∙ (cleared_numbers r.before.before.before.before.before.before.before.before.before).clear-2.auto.words ∙ s.requires.1.1))

same-length-3 : tie.Need-shape_of-records
same-length-3 c = search rules

same-length-4 : tie.Need-shape_of-numbers
same-length-4 c = search rules

returns-2 : tie.Need-returns
returns-2 c =
    let r = c in
    let s = start r.before.before.before.before.before in
    parts_accepted _ r.read_into-examined.result _ _ _ _ r.read_into-examined.ensures
    ((cleared r.before.before.before.before.before).clear.ensures ∙ ap zeros s.requires.1.0) ((cleared_numbers r.before.before.before.before.before).clear-2.ensures ∙ ap zeros s.requires.1.1) ((cleared r.before.before.before.before.before).clear.auto.words ∙ s.requires.1.0) ((cleared_numbers r.before.before.before.before.before).clear-2.auto.words ∙ s.requires.1.1)
    r.read_into-examined.auto.records r.read_into-examined.auto.numbers _ c.in-Ok.is

pub read_parts_spec : {M : Type 1} → statement M
read_parts_spec =
    tie.close
    (tie.spec
    clear-requires
    clear-requires-2
    read-into-requires
    enum_told
    enum-told-2
    clear-requires-3
    same_length
    same-length-2
    returns
    same-length-3
    same-length-4
    returns-2)
