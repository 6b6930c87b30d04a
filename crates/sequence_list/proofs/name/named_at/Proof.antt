-- `named_at` is right by its test.
-- Assumes nothing.
use Rattle.module_table.specs.Definition.{definitions_in}
use Rattle.object_tree.specs.Words.{is_object, numbered, number_at}
use mathlib.Core.Path.{◌≡◌, sym, ap, ◌∙◌}
use Rattle.sequence_list.specs.Named.{named_at}
use borrow.Author.Rules.{rules}
use Rattle.sequence_list.proofs.name.named_at.Statement.{statement}
use Rattle.sequence_list.proofs.name.named_at.Tie as tie

-- what was asked of the definition that the token leads to
asked : (h : tie.After-is_object) → (let s = h in h.is_object.result ≡ is_object (numbered (definitions_in s.args.definitions.now) (number_at s.args.values.now s.args.i.0)))
asked h =
    let s = h in
    h.is_object.ensures ∙ ap is_object (h.numbered.ensures ∙ ap (numbered (definitions_in s.args.definitions.now)) h.number_at-number.ensures)

number-at-requires : tie.Need-number_at-number-requires
number-at-requires c κs = search rules

numbered-requires : tie.Need-numbered-requires
numbered-requires c κs = search rules

is-object-requires : tie.Need-is_object-requires
is-object-requires c κs = search rules

returns : tie.Need-returns-then-is_object
unfolding named_at
returns c =
    let held = sym (asked c.before) ∙ c.if-is_object.true in
    rw held c.number_at-number.ensures

returns-2 : tie.Need-returns
unfolding named_at
returns-2 c =
    let failed = sym (asked c.before) ∙ c.if-is_object.false in
    rw failed

pub named_at_spec : {M : Type 1} → statement M
named_at_spec =
    tie.close (tie.spec
    number-at-requires
    numbered-requires
    is-object-requires
    returns
    returns-2)
