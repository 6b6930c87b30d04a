-- `parent_named` is right: it is the parent of what the first token names.
-- Assumes nothing.
use mathlib.Core.Path.{ap, ◌∙◌}
use Prim.Native.Nat.{ℕ}
use Rattle.module_table.specs.Definition.{definitions_in}
use Rattle.module_table.specs.declared.Definition.{Definition}
use Rattle.object_tree.specs.Words.{numbered}
use Rattle.sequence_list.specs.Named.{named_at}
use borrow.Author.Rules.{rules}
use Rattle.sequence_list.proofs.verdict.parent_named.Statement.{statement}
use Rattle.sequence_list.proofs.verdict.parent_named.Tie as tie

first-named-requires : tie.Need-first_named-i-requires
first-named-requires c κs = search rules

named-at-requires : tie.Need-named_at-requires
named-at-requires c κs = search rules

numbered-requires : tie.Need-numbered-d-requires
numbered-requires c κs = search rules

returns : tie.Need-returns
returns c =
    let s = c in
    let ds = definitions_in s.args.definitions.now in
    ap (λ (d : Definition). d.parent) c.numbered-d.ensures ∙ ap (λ (x : ℕ). (numbered ds x).parent) c.named_at.ensures
    ∙ ap (λ (x : ℕ). (numbered ds (named_at ds s.args.values.now x)).parent) c.first_named-i.ensures

pub parent_named_spec : {M : Type 1} → statement M
parent_named_spec =
    tie.close (tie.spec
    first-named-requires
    named-at-requires
    numbered-requires
    returns)
