-- `is_misfit` is right because its tests are those of the definition, at the same bytes.
-- Assumes nothing.
use Rattle.std.proofs.Common.{◌∙◌, ◌-◌, ◌<◌, ◌≤◌, sym, drop, List, ℕ, arith}
use borrow.Author.Tests.{lt-ltb, le-ltb, ne_eqb, ltb-true, ltb-false}
use Rattle.index.proofs.Search.{true_false}
use Rattle.piece.specs.Piece.{span, misfit}
use Rattle.lexicon.specs.Byte.{digit_byte}
use Rattle.lexicon.proofs.Places.{first_byte, class_there}
use Rattle.piece.proofs.is_misfit.Goals.{then-byte_at-eq48, else-byte_at-eq48}
use Rattle.piece.proofs.is_misfit.Goals as goal

pub returns-then-end-at-gt1 : goal.returns-then-end-at-gt1
unfolding misfit
returns-then-end-at-gt1 c =
    let t : List ℕ = c.args.text.now in
    let at : ℕ = c.args.at in
    let n : ℕ = span digit_byte (drop at t) in
    let first = first_byte t at ∙ sym c.byte_at.ensures in
    elim c.if-byte_at-eq48.branch [
      | then-byte_at-eq48 w ↦
          let more : 1 < c.args.end - at = ltb-true 1 (c.args.end - at) (sym w.value-is ∙ c.if-end-at-gt1.true) in
          rw c.if-end-at-gt1.true (simp (first, w.if-byte_at-eq48.true, lt-ltb 1 n (omega (arith, more, c.requires))))
      | else-byte_at-eq48 w ↦ absurd (true_false c.if-end-at-gt1.true (w.value-is ∙ ne_eqb _ _ w.if-byte_at-eq48.false))
    ]

pub returns-else-end-at-gt1 : goal.returns-else-end-at-gt1
unfolding misfit
returns-else-end-at-gt1 c =
    let t : List ℕ = c.args.text.now in
    let at : ℕ = c.args.at in
    let n : ℕ = span digit_byte (drop at t) in
    let first = first_byte t at ∙ sym c.byte_at.ensures in
    let letter = class_there t at n c.args.end (sym c.requires) c.class_at.ensures in
    elim c.if-byte_at-eq48.branch [
      | then-byte_at-eq48 w ↦
          let few : c.args.end - at ≤ 1 = ltb-false 1 (c.args.end - at) (sym w.value-is ∙ c.if-end-at-gt1.false) in
          simp (first, w.if-byte_at-eq48.true, le-ltb 1 n (omega (arith, few, c.requires)), letter)
      | else-byte_at-eq48 w ↦ simp (first, ne_eqb _ _ w.if-byte_at-eq48.false, letter)
    ]
