-- `write_behind` is right: the parts are written behind the head's numbers, into the rest that is lent.
-- Assumes nothing.
use mathlib.Core.Path.{◌≡◌}
use mathlib.Core.List.{List, ◌++◌}
use Prim.Native.Nat.{ℕ, ◌+◌, ◌≤◌}
use native.Mathlib.Omega.{arith}
use lib.ListN.{length, length-append, length-drop, drop}
use lib.Seq.{length-take-le}
use Rattle.module_table.specs.Module.{oid_in}
use Rattle.oid_number.specs.Number.{parts_in}
use Rattle.oid_number.proofs.Laid.{laid_both}
use borrow.Author.Rules.{rules}
use Rattle.oid_tree.proofs.writer.write_behind.Statement.{statement}
use Rattle.oid_tree.proofs.writer.write_behind.Tie as tie

-- the head's numbers, and those of the parts
abbrev head_numbers : tie.Start → List ℕ
head_numbers s = oid_in s.args.numbers.now s.args.head

abbrev own_numbers : tie.Start → List ℕ
own_numbers s = parts_in s.args.classes.now s.args.values.now s.args.own.oid

head_count : (s : tie.Start) → length (head_numbers s) ≡ s.args.head.count
head_count s =
    length-take-le s.args.head.count (drop s.args.head.start.0 s.args.numbers.now)
    (omega (arith, length-drop s.args.head.start.0 s.args.numbers.now, s.requires.0, s.requires.1))

counted : (s : tie.Start) → s.args.own.start.0 + s.args.head.count ≡ s.args.own.start.0 + length (head_numbers s)
counted s = omega (arith, head_count s)

room : (s : tie.Start) → s.args.own.start.0 + length (head_numbers s ++ own_numbers s) ≤ length s.args.numbers.now
room s = omega (arith, head_count s, length-append (head_numbers s) (own_numbers s), s.requires.1)

copy-numbers-requires : tie.Need-copy_numbers-requires
copy-numbers-requires c κs = search rules

add_at : tie.Need-overflow_add-at
add_at c = search rules

mul-rest : tie.Need-offset_bounds-numbers-at
mul-rest c = search rules

sub-rest : tie.Need-slice_bounds-rest-count
sub-rest c = search rules

part-rest-start : tie.Need-slice_bounds-rest-start
part-rest-start c = search rules

part-rest-end : tie.Need-slice_bounds-rest-end
part-rest-end c = search rules

write-parts-requires : tie.Need-write_parts-requires
write-parts-requires c κs = search rules

same_length : tie.Need-shape_of-numbers
same_length c = search rules

returns : tie.Need-returns
returns c =
    let p = c in
    let w = p in
    let s = w in
    laid_both s.args.own.start.0 (head_numbers s.before.before.before.before.before.before.before.before.before.before.before.before.before.before.before) (own_numbers s.before.before.before.before.before.before.before.before.before.before.before.before.before.before.before) s.args.numbers.now _ _ (room s.before.before.before.before.before.before.before.before.before.before.before.before.before.before.before) w.copy_numbers.ensures (counted s.before.before.before.before.before.before.before.before.before.before.before.before.before.before.before) _ _ p.write_parts.ensures

pub write_behind_spec : {M : Type 1} → statement M
write_behind_spec =
    tie.close
    (tie.spec
    copy-numbers-requires
    add_at
    mul-rest
    sub-rest
    part-rest-start
    part-rest-end
    write-parts-requires
    same_length
    returns)
