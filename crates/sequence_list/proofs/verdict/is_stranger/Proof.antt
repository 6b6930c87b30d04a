-- `is_stranger` is right: both tests are made.
-- Assumes nothing.
use mathlib.Core.Path.{ap, ◌∙◌}
use mathlib.Core.Bool.{not, ◌&&◌}
use Prim.Native.Nat.{ℕ}
use lib.Dec.{eqb}
use Rattle.module_table.specs.Definition.{definitions_in}
use Rattle.module_table.specs.declared.Definition.{Definition}
use Rattle.object_tree.specs.Words.{numbered}
use Rattle.sequence_list.specs.Named.{is_stranger}
use borrow.Author.Rules.{rules}
use Rattle.sequence_list.proofs.verdict.is_stranger.Statement.{statement}
use Rattle.sequence_list.proofs.verdict.is_stranger.Tie as tie

named-at-requires : tie.Need-named_at-named-requires
named-at-requires c κs = search rules

numbered-requires : tie.Need-numbered-d-requires
numbered-requires c κs = search rules

returns : tie.Need-returns
unfolding is_stranger
returns c =
    let s = c in
    let n = c.named_at-named.result in
    ap (λ (d : Definition). not (eqb n 0) && not (eqb d.parent s.args.parent)) c.numbered-d.ensures
    ∙ ap (λ (x : ℕ). not (eqb x 0) && not (eqb (numbered (definitions_in s.args.definitions.now) x).parent s.args.parent)) c.named_at-named.ensures

pub is_stranger_spec : {M : Type 1} → statement M
is_stranger_spec = tie.close (tie.spec
    named-at-requires
    numbered-requires
    returns)
