-- `piece_at` is right because it asks the first byte's class what the definition asks.
-- Assumes nothing.
use Rattle.std.proofs.Common.{◌≡◌, ◌+◌, ◌≤◌, ◌<◌, refl, List, ℕ, rules, arith}
use mathlib.Core.Bool.{◌&&◌, false}
use lib.Dec.{leb}
use borrow.Author.Tests.{le-leb, lt-leb, ne_eqb}
use Rattle.lexicon.specs.Byte.{blank_byte, digit, capital, newline, feed}
use Rattle.lexicon.proofs.Places.{first_class, rest_at}
use Rattle.piece.specs.Piece.{piece}
use Rattle.piece.proofs.Span.{run_span}
use Rattle.piece.proofs.Answered.{gap}
use Rattle.piece.proofs.piece_at.Goals as goal

pub returns-in-2 : goal.returns-in-2
unfolding piece
returns-in-2 c = simp (first_class c.args.text.now c.args.at c.class_of.ensures, c.in-2.is) c.number_at.ensures

pub returns-in-0-to-4 : goal.returns-in-0-to-4
unfolding piece
returns-in-0-to-4 c =
    let k : ℕ = c.class_of.result in
    let letter : k ≤ capital = omega arith in
    let other : k ≡ digit → ⊥ = λ e. omega arith in
    simp (first_class c.args.text.now c.args.at c.class_of.ensures, le-leb _ _ letter, ne_eqb _ _ other) c.name_at.ensures

pub returns-in-18-to-20 : goal.returns-in-18-to-20
unfolding piece
returns-in-18-to-20 c =
    let t : List ℕ = c.args.text.now in
    let k : ℕ = c.class_of.result in
    let e = run_span blank_byte _ t c.args.at c.run_end.result c.run_end.ensures (λ i h r k. search rules) in
    let low : newline ≤ k = omega arith in
    let high : k ≤ feed = omega arith in
    let no_letter : capital < k = omega arith in
    simp (first_class t c.args.at c.class_of.ensures, lt-leb _ _ no_letter, le-leb _ _ low, le-leb _ _ high) (gap _ _ e)

-- a class outside those of the blanks is none of theirs
no_blank : (k : ℕ) → (newline ≤ k → k ≤ feed → ⊥) → (leb newline k && leb k feed) ≡ false
no_blank k other = grind arith

pub returns-in_default : goal.returns-in_default
unfolding piece
returns-in_default c =
    let t : List ℕ = c.args.text.now in
    let k : ℕ = c.class_of.result in
    let asked = first_class t c.args.at c.class_of.ensures in
    let rest = rest_at t c.args.at 1 (c.args.at + 1) refl in
    let no_letter : capital < k = omega arith in
    let other : newline ≤ k → k ≤ feed → ⊥ = λ low high. grind arith in
    simp (asked, lt-leb _ _ no_letter, no_blank k other, rest) c.punctuation_at.ensures
