-- `bytes_of` is right by its test.
-- Assumes nothing.
use mathlib.Core.Path.{◌≡◌, ◌∙◌}
use Prim.Native.Nat.{ℕ, ◌-◌}
use borrow.Author.Tests.{lt-ltb, le-ltb}
use Rattle.records.specs.Record.{offset_in, length_in}
use borrow.Author.Rules.{rules}
use Rattle.records.proofs.bytes_of.Statement.{statement}
use Rattle.records.proofs.bytes_of.Tie as tie

ap2 : {a b c d : ℕ} → a ≡ b → c ≡ d → a - c ≡ b - d
ap2 p q = cc

place-at-requires : tie.Need-place_at-offset-requires
place-at-requires c κs = search rules

sub-place-at : tie.Need-overflow_sub-to
sub-place-at c = search rules

place-at-requires-2 : tie.Need-place_at-requires
place-at-requires-2 c κs = search rules

distance-requires : tie.Need-distance-requires
distance-requires c κs = search rules

returns : tie.Need-returns-then-from-to
unfolding offset_in length_in
returns c =
    let inside = lt-ltb _ _ c.if-from-to.true in
    (simp inside c.place_at-offset.ensures, simp inside (c.distance.ensures ∙ ap2 c.place_at.ensures c.place_at-offset.ensures))

returns-2 : tie.Need-returns
unfolding offset_in length_in
returns-2 c =
    let outside = le-ltb _ _ c.if-from-to.false in
    (simp outside, simp outside)

pub bytes_of_spec : {M : Type 1} → statement M
bytes_of_spec =
    tie.close
    (tie.spec
    place-at-requires
    sub-place-at
    place-at-requires-2
    distance-requires
    returns
    returns-2)
