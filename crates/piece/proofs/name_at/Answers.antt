-- `name_at` is right because the name is the span, and its class that of its bytes.
-- Assumes nothing.
use Rattle.std.proofs.Common.{◌≡◌, ◌+◌, ◌-◌, ◌<◌, Ok, drop, take, List, ℕ, suc, get_or, true, rules, arith, length, add-one}
use borrow.Author.Tests.{le-leb, lt-leb}
use Rattle.lexicon.specs.Byte.{name_byte, alphanumeric}
use Rattle.lexicon.specs.Word.{longest_name, name_class}
use Rattle.piece.specs.Piece.{span, name}
use Rattle.piece.specs.declared.Found.{Found}
use Rattle.piece.specs.declared.Cause.TheVariants.{LongName}
use Rattle.piece.proofs.Span.{run_span, span_more}
use Rattle.piece.proofs.Answered.{refused}
use Rattle.piece.proofs.name_at.Goals as goal

-- the name's first byte is passed at once, so the run after it ends where the whole does
ends : (t : List ℕ) (at end : ℕ) → at < length t → alphanumeric (get_or t at 0) ≡ true → end ≡ at + 1 + span name_byte (drop (at + 1) t)
    → end ≡ at + span name_byte (drop at t)
ends t at end h letter e =
    let in-name : name_byte (get_or t at 0) (get_or t (at + 1) 0) ≡ true = simp letter in
    let whole : span name_byte (drop at t) ≡ suc (span name_byte (drop (at + 1) t)) = rw (add-one at) (span_more name_byte t at h in-name) in
    omega (arith, e, whole)

pub returns-then-end-at-gt-LONGEST_NAME : goal.returns-then-end-at-gt-LONGEST_NAME
unfolding name
returns-then-end-at-gt-LONGEST_NAME c =
    let t : List ℕ = c.args.text.now in
    let at : ℕ = c.args.at in
    let end : ℕ = c.run_end-end.result in
    let r = run_span name_byte _ t (at + 1) end c.run_end-end.ensures (λ i h r k. search rules) in
    let e = ends t at end c.requires.inside c.requires.letter r in
    simp (lt-leb (span name_byte (drop at t)) longest_name (omega (arith, e))) (refused _ LongName _ _ c.at.ensures (omega arith))

pub returns : goal.returns
unfolding name
returns c =
    let t : List ℕ = c.args.text.now in
    let at : ℕ = c.args.at in
    let end : ℕ = c.run_end-end.result in
    let r = run_span name_byte _ t (at + 1) end c.run_end-end.ensures (λ i h r k. search rules) in
    let e = ends t at end c.requires.inside c.requires.letter r in
    let n : ℕ = span name_byte (drop at t) in
    let all : end - at ≡ n = omega (arith, e) in
    let class : c.name_class.result ≡ name_class (take n (drop at t)) = rw (← all) c.name_class.ensures in
    simp (le-leb n longest_name (omega (arith, e))) (λ i. Ok (Found.Token (class i) (e i)))
