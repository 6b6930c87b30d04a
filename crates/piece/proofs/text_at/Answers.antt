-- `text_at` is right because the run ends where the span does, and the byte there is asked what the definition asks.
-- Assumes nothing.
use Rattle.std.proofs.Common.{◌≡◌, ◌+◌, ◌<◌, ◌≤◌, get_or, ◌∙◌, sym, ap, drop, List, ℕ, rules, arith, length, length-drop}
use Rattle.std.proofs.lemmas.List.{get_or_default}
use borrow.Author.Tests.{le-leb, lt-leb, ltb-true, ltb-false}
use Rattle.terminal.specs.Terminal.{text}
use Rattle.lexicon.specs.Byte.{text_byte, class_of}
use Rattle.lexicon.proofs.Places.{class_is, class_not}
use Rattle.piece.specs.Piece.{span, quoted}
use Rattle.piece.proofs.Span.{run_span}
use Rattle.piece.proofs.Answered.{token, refused}
use Rattle.piece.specs.declared.Cause.TheVariants.{NoToken, Forbidden}
use Rattle.piece.proofs.text_at.Goals as goal

pub returns-in-None : goal.returns-in-None
unfolding quoted
returns-in-None c =
    let t : List ℕ = c.args.text.now in
    let at : ℕ = c.args.at + 1 in
    let n : ℕ = span text_byte (drop at t) in
    let end : ℕ = c.run_end-end.result in
    let e = run_span text_byte _ t at end c.run_end-end.ensures (λ i h r k. search rules) in
    let out : length t ≤ end = ltb-false end (length t) (sym c.in-None.ensures.lookup.0) in
    let ends : length (drop at t) ≤ n = omega (arith, length-drop at t, e) in
    simp (le-leb _ _ ends) (refused _ NoToken _ _ c.at.ensures (omega arith))

pub returns-in-Some : goal.returns-in-Some
unfolding quoted
returns-in-Some c =
    let t : List ℕ = c.args.text.now in
    let at : ℕ = c.args.at + 1 in
    let n : ℕ = span text_byte (drop at t) in
    let end : ℕ = c.run_end-end.result in
    let e = run_span text_byte _ t at end c.run_end-end.ensures (λ i h r k. search rules) in
    let inside : end < length t = ltb-true end (length t) (sym c.in-Some.ensures.lookup.0) in
    let longer : n < length (drop at t) = omega (arith, length-drop at t, e) in
    let here : c.class_of.result ≡ class_of (get_or t end 0) = c.class_of.ensures ∙ ap class_of (c.in-Some.ensures.lookup.1 ∙ get_or_default t end _ 0 inside) in
    let next = class_is t at n end (sym e) here c.if-class_of-eq-QUOTE.true in
    simp (lt-leb _ _ longer, next) (token text _ _ (omega (arith, e)))

pub returns-in-Some-2 : goal.returns-in-Some-2
unfolding quoted
returns-in-Some-2 c =
    let t : List ℕ = c.args.text.now in
    let at : ℕ = c.args.at + 1 in
    let n : ℕ = span text_byte (drop at t) in
    let end : ℕ = c.run_end-end.result in
    let e = run_span text_byte _ t at end c.run_end-end.ensures (λ i h r k. search rules) in
    let inside : end < length t = ltb-true end (length t) (sym c.in-Some.ensures.lookup.0) in
    let longer : n < length (drop at t) = omega (arith, length-drop at t, e) in
    let here : c.class_of.result ≡ class_of (get_or t end 0) = c.class_of.ensures ∙ ap class_of (c.in-Some.ensures.lookup.1 ∙ get_or_default t end _ 0 inside) in
    let other = class_not t at n end (sym e) here c.if-class_of-eq-QUOTE.false in
    simp (lt-leb _ _ longer, other) (refused _ Forbidden _ _ c.at-in-Some-2.ensures (omega (arith, e)))
