-- `magnitude_of` is right: below zero the integer is negated within its bounds, and is then its magnitude.
-- Assumes nothing.
use native.Mathlib.Omega.{arith}
use mathlib.Core.Path.{◌≡◌, ap, sym, subst, ◌∙◌}
use lib.Dec.{T}
use lib.IntN.{ℤ, pos, nat_abs, ◌-ℤ◌}
use lib.Signed.{lt_z, non_neg}
use mir.Syntax.{w64}
use mir.Val.{Fits, SFits, to_z, of_z}
use mir.Facts.{to_z-of_z}
use borrow.Author.Rules.{rules}
use Rattle.hint_integer.proofs.SignedLaws.{negated, not_negative, magnitude_small}
use Rattle.hint_integer.proofs.magnitude_of.Statement.{statement}
use Rattle.hint_integer.proofs.magnitude_of.Tie as tie

sub-result : tie.Need-overflow_sub-result
sub-result c =
    let v = c.args.value in
    let same = to_z-of_z c.ranges.value in
    let is = ap (λ (z : ℤ). pos 0 -ℤ z) same ∙ negated v (ap (λ (z : ℤ). lt_z z (pos 0)) (sym same) ∙ c.if-value-lt0.true) in
    let small = magnitude_small v c.requires in
    subst (SFits w64) (sym is) (record { sfits = omega arith })

-- the integer negated is its magnitude, also as the machine's bits have it
negative : (c : tie.Then-value-lt0)
    → to_z w64 (of_z w64 (pos 0 -ℤ to_z w64 (of_z w64 c.args.value))) ≡ pos (nat_abs c.args.value)
negative c =
    let v = c.args.value in
    let same = to_z-of_z c.ranges.value in
    to_z-of_z (sub-result c) ∙ ap (λ (z : ℤ). pos 0 -ℤ z) same ∙ negated v (ap (λ (z : ℤ). lt_z z (pos 0)) (sym same) ∙ c.if-value-lt0.true)

cast-result : tie.Need-overflow_cast-result
cast-result c =
    let small = magnitude_small c.args.value c.requires in
    subst (λ (z : ℤ). T (non_neg z) × Fits w64 (nat_abs z)) (sym (negative c)) (tt, record { fits = omega arith })

cast-result-2 : tie.Need-overflow_cast-result-else-value-lt0
cast-result-2 c =
    let v = c.args.value in
    let same = to_z-of_z c.ranges.value in
    let is = same ∙ not_negative v (ap (λ (z : ℤ). lt_z z (pos 0)) (sym same) ∙ c.if-value-lt0.false) in
    let small = magnitude_small v c.requires in
    subst (λ (z : ℤ). T (non_neg z) × Fits w64 (nat_abs z)) (sym is) (tt, record { fits = omega arith })

returns : tie.Need-returns-then-value-lt0
returns c = ap nat_abs (negative c)

returns-2 : tie.Need-returns-else-value-lt0
returns-2 c = search rules

pub magnitude_of_spec : {M : Type 1} → statement M
magnitude_of_spec = tie.close (tie.spec
    sub-result
    cast-result
    cast-result-2
    returns
    returns-2)
