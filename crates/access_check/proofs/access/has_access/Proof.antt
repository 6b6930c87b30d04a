-- `has_access` is right: it is that of what the token names.
-- Assumes nothing.
use mathlib.Core.Path.{ap, ◌∙◌}
use lib.Dec.{eqb}
use Rattle.module_table.specs.Definition.{definitions_in}
use Rattle.module_table.specs.declared.Definition.{Definition}
use Rattle.object_tree.specs.Words.{numbered}
use Rattle.access_check.specs.Access.{has_access}
use borrow.Author.Rules.{rules}
use Rattle.access_check.proofs.access.has_access.Statement.{statement}
use Rattle.access_check.proofs.access.has_access.Tie as tie

named-at-requires : tie.Need-named_at-requires
named-at-requires c κs = search rules

numbered-requires : tie.Need-numbered-d-requires
numbered-requires c κs = search rules

returns : tie.Need-returns
unfolding has_access
returns c =
    let n = c in
    let s = n in
    ap (λ (d : Definition). eqb d.access s.args.access) (n.numbered-d.ensures ∙ ap (numbered (definitions_in s.args.definitions.now)) n.named_at.ensures)

pub has_access_spec : {M : Type 1} → statement M
has_access_spec = tie.close (tie.spec
    named-at-requires
    numbered-requires
    returns)
