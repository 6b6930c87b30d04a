-- `hex_at` is right because the run ends where the span does, and the two bytes there are asked what the definition asks.
-- Assumes nothing.
use Rattle.std.proofs.Common.{◌+◌, sym, drop, List, ℕ, rules, arith}
use Rattle.terminal.specs.Terminal.{hex}
use Rattle.lexicon.specs.Byte.{hex_byte}
use Rattle.lexicon.proofs.Places.{class_is, class_not, byte_is, byte_not}
use Rattle.piece.specs.Piece.{span, hex_string}
use Rattle.piece.proofs.Span.{run_span}
use Rattle.piece.proofs.Answered.{token, refused}
use Rattle.piece.specs.declared.Cause.TheVariants.{NoToken}
use Rattle.piece.proofs.hex_at.Goals.{else-class_at-eq-APOSTROPHE-via-then-class_at-eq-APOSTROPHE+else-byte_at-eq72, else-class_at-eq-APOSTROPHE-via-else-class_at-eq-APOSTROPHE}
use Rattle.piece.proofs.hex_at.Goals as goal

pub returns-then-byte_at-eq72 : goal.returns-then-byte_at-eq72
unfolding hex_string
returns-then-byte_at-eq72 c =
    let t : List ℕ = c.args.text.now in
    let at : ℕ = c.args.at + 1 in
    let n : ℕ = span hex_byte (drop at t) in
    let end : ℕ = c.run_end-end.result in
    let e = run_span hex_byte _ t at end c.run_end-end.ensures (λ i h r k. search rules) in
    let closed = class_is t at n end (sym e) c.class_at.ensures c.if-class_at-eq-APOSTROPHE.true in
    let letter = byte_is t at (n + 1) (end + 1) (omega (arith, e)) c.byte_at.ensures c.if-byte_at-eq72.true in
    simp (closed, letter) (token hex _ _ (omega (arith, e)))

pub returns : goal.returns
unfolding hex_string
returns c =
    let t : List ℕ = c.args.text.now in
    let at : ℕ = c.args.at + 1 in
    let n : ℕ = span hex_byte (drop at t) in
    let end : ℕ = c.run_end-end.result in
    let e = run_span hex_byte _ t at end c.run_end-end.ensures (λ i h r k. search rules) in
    let none = refused c.at.result NoToken c.args.at (c.args.at + 0) c.at.ensures (omega arith) in
    elim c.else-class_at-eq-APOSTROPHE.branch [
      | else-class_at-eq-APOSTROPHE-via-then-class_at-eq-APOSTROPHE+else-byte_at-eq72 w ↦
          let closed = class_is t at n end (sym e) c.class_at.ensures w.if-class_at-eq-APOSTROPHE.true in
          let other = byte_not t at (n + 1) (end + 1) (omega (arith, e)) w.byte_at.ensures w.if-byte_at-eq72.false in
          simp (closed, other) none
      | else-class_at-eq-APOSTROPHE-via-else-class_at-eq-APOSTROPHE w ↦
          simp (class_not t at n end (sym e) c.class_at.ensures w.if-class_at-eq-APOSTROPHE.false) none
    ]
