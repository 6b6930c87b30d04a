-- `start_of` is right: past the last token there is 0.
-- Assumes nothing.
use mathlib.Core.Path.{sym}
use Prim.Native.Nat.{ℕ}
use lib.ListN.{get_or-eq_default}
use borrow.Author.Rules.{rules}
use Rattle.reader.proofs.module.start_of.Statement.{statement}
use Rattle.reader.proofs.module.start_of.Tie as tie

mul-place-of : tie.Need-offset_bounds-starts-at
mul-place-of c = search rules

shared-slice-read-place-of : tie.Need-bounds-starts-at
shared-slice-read-place-of c = search rules

place-of-requires : tie.Need-place_of-requires
place-of-requires c κs = search rules

returns : tie.Need-returns-then-at-starts
returns c = search rules

returns-2 : tie.Need-returns
returns-2 c = sym (get_or-eq_default {A = ℕ} c.args.starts.now 0 c.if-at-starts.false)

pub start_of_spec : {M : Type 1} → statement M
start_of_spec =
    tie.close
    (tie.spec
    mul-place-of
    shared-slice-read-place-of
    place-of-requires
    returns
    returns-2)
