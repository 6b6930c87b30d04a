-- `magnitude` is right because a sound number is in range, so that its value is not cut off.
-- Assumes nothing.
use mathlib.Core.Path.{◌≡◌, sym, ap, ◌∙◌}
use Prim.Native.Nat.{ℕ, ◌≤◌}
use native.Mathlib.Omega.{arith}
use lib.IntN.{nat_abs}
use Rattle.piece.specs.Decimal.{capped}
use Rattle.piece.specs.Piece.{largest_number}
use Rattle.token.proofs.Laws.{token_within, token_place, number_is, negative_is, other_value}
use Rattle.naming.proofs.Numbers.{magnitude_negative}
use Rattle.naming.proofs.number.magnitude.Statement.{statement}
use Rattle.naming.proofs.number.magnitude.Tie as tie

-- a value that is in range is not cut off
whole : (r d : ℕ) → r ≡ capped d → d ≤ largest_number → r ≡ d
whole r d e h = omega arith

digits-value-requires : tie.Need-digits_value-requires
digits-value-requires c κs = let s = c in token_within _ _ _ _ s.requires

cast-result : tie.Need-overflow_cast-result
cast-result c =
    let is = number_is _ _ _ _ c.requires c.if-class-eq-NUMBER.true in
    omega (arith, c.digits_value.ensures, is.1)

returns : tie.Need-returns-then-class-eq-NUMBER
returns c =
    let is = number_is _ _ _ _ c.requires c.if-class-eq-NUMBER.true in
    whole _ _ c.digits_value.ensures is.1 ∙ sym (ap nat_abs is.0)

add-digits-value : tie.Need-overflow_add-start
add-digits-value c = let s = c in omega (arith, token_place _ _ _ _ s.requires)

digits-value-requires-2 : tie.Need-digits_value-requires-then-class-eq-NEGATIVE
digits-value-requires-2 c κs =
    let s = c in
    let place = token_place _ _ _ _ s.requires in
    record { ordered = omega (arith, place); inside = place.1 }

cast-result-2 : tie.Need-overflow_cast-result-then-class-eq-NEGATIVE
cast-result-2 c =
    let is = negative_is _ _ _ _ c.requires c.if-class-eq-NEGATIVE.true in
    omega (arith, c.digits_value-then-class-eq-NEGATIVE.ensures, is.1)

returns-2 : tie.Need-returns-then-class-eq-NEGATIVE
returns-2 c =
    let is = negative_is _ _ _ _ c.requires c.if-class-eq-NEGATIVE.true in
    whole _ _ c.digits_value-then-class-eq-NEGATIVE.ensures (omega (arith, is.1)) ∙ sym (magnitude_negative _) ∙ sym (ap nat_abs is.0)

returns-3 : tie.Need-returns
returns-3 c = sym (ap nat_abs (other_value _ _ c.if-class-eq-NUMBER.false c.if-class-eq-NEGATIVE.false))

pub magnitude_spec : {M : Type 1} → statement M
magnitude_spec =
    tie.close
    (tie.spec
    digits-value-requires
    cast-result
    returns
    add-digits-value
    digits-value-requires-2
    cast-result-2
    returns-2
    returns-3)
