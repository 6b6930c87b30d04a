-- `comment_end` is right because the run ends where the span does, and the two bytes there are asked what the definition asks.
-- Assumes nothing.
use Rattle.std.proofs.Common.{◌+◌, sym, refl, drop, List, ℕ, rules, arith}
use Rattle.lexicon.specs.Byte.{comment_byte}
use Rattle.lexicon.proofs.Places.{rest_at, class_is, class_not, first_class_is, first_class_not}
use Rattle.piece.specs.Piece.{span, comment}
use Rattle.piece.proofs.Span.{run_span}
use Rattle.piece.proofs.Answered.{gap}
use Rattle.piece.proofs.comment_end.Goals.{else-class_at-eq-HYPHEN-via-then-class_at-eq-HYPHEN+else-class_at-eq-HYPHEN-2, else-class_at-eq-HYPHEN-via-else-class_at-eq-HYPHEN}
use Rattle.piece.proofs.comment_end.Goals as goal

pub returns-then-class_at-eq-HYPHEN-2 : goal.returns-then-class_at-eq-HYPHEN-2
unfolding comment
returns-then-class_at-eq-HYPHEN-2 c =
    let t : List ℕ = c.args.text.now in
    let end : ℕ = c.run_end-end.result in
    let e = run_span comment_byte _ t (c.args.at + 2) end c.run_end-end.ensures (λ i h r k. search rules) in
    let rest = rest_at t (c.args.at + 2) (span comment_byte (drop (c.args.at + 2) t)) end (sym e) in
    let first = first_class_is t end c.class_at.ensures c.if-class_at-eq-HYPHEN.true in
    let two = class_is t end 1 (end + 1) refl c.class_at-then-class_at-eq-HYPHEN.ensures c.if-class_at-eq-HYPHEN-2.true in
    simp (rest, first, two) (gap _ _ (omega (arith, e)))

pub returns : goal.returns
unfolding comment
returns c =
    let t : List ℕ = c.args.text.now in
    let end : ℕ = c.run_end-end.result in
    let e = run_span comment_byte _ t (c.args.at + 2) end c.run_end-end.ensures (λ i h r k. search rules) in
    let rest = rest_at t (c.args.at + 2) (span comment_byte (drop (c.args.at + 2) t)) end (sym e) in
    elim c.else-class_at-eq-HYPHEN.branch [
      | else-class_at-eq-HYPHEN-via-then-class_at-eq-HYPHEN+else-class_at-eq-HYPHEN-2 w ↦
          let first = first_class_is t end c.class_at.ensures w.if-class_at-eq-HYPHEN.true in
          let other = class_not t end 1 (end + 1) refl w.class_at-then-class_at-eq-HYPHEN.ensures w.if-class_at-eq-HYPHEN-2.false in
          simp (rest, first, other) (gap _ _ (omega (arith, e)))
      | else-class_at-eq-HYPHEN-via-else-class_at-eq-HYPHEN w ↦
          let other = first_class_not t end c.class_at.ensures w.if-class_at-eq-HYPHEN.false in
          simp (rest, other) (gap _ _ (omega (arith, e)))
    ]
