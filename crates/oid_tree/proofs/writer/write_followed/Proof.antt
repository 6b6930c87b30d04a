-- `write_followed` is right: the definition's numbers are written to the start of the rest that is lent.
-- Assumes nothing.
use mathlib.Core.Path.{refl, ap, ◌∙◌}
use mathlib.Core.List.{[]}
use Prim.Native.Nat.{ℕ}
use native.Mathlib.Omega.{arith}
use Rattle.oid_head.specs.Oid.{named_in, name_of, reached_in, reaches, resolved_oid}
use Rattle.oid_number.proofs.Laid.{laid_none, laid_room, laid_both}
use borrow.Author.Rules.{rules}
use Rattle.oid_tree.proofs.writer.write_followed.Statement.{statement}
use Rattle.oid_tree.proofs.writer.write_followed.Tie as tie

count-requires : tie.Need-count-left-requires
count-requires c κs = search rules

mul-rest : tie.Need-offset_bounds-numbers-start
mul-rest c = search rules

sub-rest : tie.Need-slice_bounds-rest-count
sub-rest c = search rules

part-rest-start : tie.Need-slice_bounds-rest-start
part-rest-start c = search rules

part-rest-end : tie.Need-slice_bounds-rest-end
part-rest-end c = search rules

write-definition-requires : tie.Need-write_definition-requires
unfolding reaches
write-definition-requires c κs =
    let n = c in
    let s = n in
    let m = named_in s.args.classes.now s.args.values.now s.args.definitions.now in
    let i = s.args.at.0 in (
      ap (λ (x : ℕ). reached_in m x (name_of s.args.k.0)) n.count-left.ensures ∙ s.requires.0,
      laid_room i [] (resolved_oid m s.args.k.0) s.args.numbers.now s.args.numbers.now i s.requires.1 (laid_none i [] _ refl) (omega arith),
    )

same_length : tie.Need-shape_of-numbers
same_length c = search rules

returns : tie.Need-returns
returns c =
    let w = c in
    let s = w in
    let m = named_in s.args.classes.now s.args.values.now s.args.definitions.now in
    let i = s.args.at.0 in
    laid_both i [] (resolved_oid m s.args.k.0) s.args.numbers.now s.args.numbers.now i s.requires.1 (laid_none i [] _ refl) (omega arith) _ _ w.write_definition.ensures

pub write_followed_spec : {M : Type 1} → statement M
write_followed_spec =
    tie.close
    (tie.spec
    count-requires
    mul-rest
    sub-rest
    part-rest-start
    part-rest-end
    write-definition-requires
    same_length
    returns)
