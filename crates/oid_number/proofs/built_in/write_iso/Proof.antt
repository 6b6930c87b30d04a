-- `write_iso` is right because one store lays one number over the start.
-- Assumes nothing.
use mathlib.Core.Path.{refl}
use native.Mathlib.Omega.{arith}
use borrow.Author.Rules.{rules}
use Rattle.symbol.specs.Symbol.{iso_oid}
use Rattle.overlay.proofs.Writing.{writing_start, writing_more, writing_end}
use Rattle.oid_number.proofs.built_in.write_iso.Statement.{statement}
use Rattle.oid_number.proofs.built_in.write_iso.Tie as tie

slice-write-numbers : tie.Need-bounds-numbers-0
unfolding iso_oid
slice-write-numbers c = omega (arith, c.requires)

same_length : tie.Need-shape_of-numbers
same_length c = search rules

returns : tie.Need-returns
unfolding iso_oid
returns c =
    let none = writing_start iso_oid c.args.numbers.now in
    writing_end _ _ _ _ c.requires (writing_more _ _ _ _ c.requires none (omega arith) 1 refl) (omega arith)

pub write_iso_spec : {M : Type 1} → statement M
write_iso_spec = tie.close (tie.spec
    slice-write-numbers
    same_length
    returns)
