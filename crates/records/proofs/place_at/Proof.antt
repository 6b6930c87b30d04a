-- `place_at` is right: past the last token an array has 0.
-- Assumes nothing.
use mathlib.Core.Path.{sym}
use Prim.Native.Nat.{ℕ}
use lib.ListN.{get_or-eq_default}
use borrow.Author.Rules.{rules}
use Rattle.records.proofs.place_at.Statement.{statement}
use Rattle.records.proofs.place_at.Tie as tie

mul-result : tie.Need-offset_bounds-places-i
mul-result c = search rules

shared-slice-read-result : tie.Need-bounds-places-i
shared-slice-read-result c = search rules

returns : tie.Need-returns-then-i-places
returns c = search rules

returns-2 : tie.Need-returns
returns-2 c = sym (get_or-eq_default {A = ℕ} c.args.places.now 0 c.if-i-places.false)

pub place_at_spec : {M : Type 1} → statement M
place_at_spec = tie.close (tie.spec
    mul-result
    shared-slice-read-result
    returns
    returns-2)
