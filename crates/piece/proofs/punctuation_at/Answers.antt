-- `punctuation_at` is right because it asks the class what the definition asks.
-- Assumes nothing.
use Rattle.std.proofs.Common.{◌≡◌, ◌+◌, ◌<◌, ◌≤◌, false, ◌∙◌, ap, drop, ℕ, arith}
use lib.Dec.{eqb}
use Rattle.terminal.specs.Terminal.{left_brace, bar}
use Rattle.lexicon.specs.Byte.{hyphen, quote, colon, dot, apostrophe}
use borrow.Author.Tests.{le-leb, lt-leb, ne_eqb}
use Rattle.piece.specs.Piece.{punctuation}
use Rattle.piece.specs.Found.{found_at}
use Rattle.piece.specs.declared.Cause.TheVariants.{NoToken}
use Rattle.piece.proofs.Answered.{refused}
use Rattle.piece.proofs.Marks.{colon_mark, dot_mark}
use Rattle.piece.proofs.punctuation_at.Goals.{in_default-via-then-class-lt6, in_default-via-else-class-lt6+else-class-lt13}
use Rattle.piece.proofs.punctuation_at.Goals as goal

pub returns-in-16 : goal.returns-in-16
unfolding punctuation
returns-in-16 c = rw c.in-16.is c.hyphen_at.ensures

pub returns-in-21 : goal.returns-in-21
unfolding punctuation
returns-in-21 c = rw c.in-21.is c.text_at.ensures

pub returns-in-13 : goal.returns-in-13
unfolding punctuation
returns-in-13 c = rw c.in-13.is (c.mark_at.ensures ∙ ap (found_at c.args.at) (colon_mark (drop (c.args.at + 1) c.args.text.now)))

pub returns-in-14 : goal.returns-in-14
unfolding punctuation
returns-in-14 c = rw c.in-14.is (c.mark_at-in-14.ensures ∙ ap (found_at c.args.at) (dot_mark (drop (c.args.at + 1) c.args.text.now)))

pub returns-in-15 : goal.returns-in-15
unfolding punctuation
returns-in-15 c = rw c.in-15.is c.hex_at.ensures

pub returns-in-6-to-12 : goal.returns-in-6-to-12
unfolding punctuation
returns-in-6-to-12 c =
    let low : left_brace ≤ c.args.class = omega arith in
    let high : c.args.class ≤ bar = omega arith in
    simp (le-leb _ _ low, le-leb _ _ high)

pub returns-in_default : goal.returns-in_default
unfolding punctuation
returns-in_default c =
    let k : ℕ = c.args.class in
    let none = refused c.at.result NoToken c.args.at (c.args.at + 0) c.at.ensures (omega arith) in
    elim c.in_default.branch [
      | in_default-via-then-class-lt6 w ↦
          let low : k < left_brace = omega arith in
          let other : (v : ℕ) → left_brace ≤ v → eqb k v ≡ false = λ v h. ne_eqb k v (λ e. omega arith) in
          simp (lt-leb left_brace k low, other hyphen (omega arith), other quote (omega arith), other colon (omega arith), other dot (omega arith), other apostrophe (omega arith)) none
      | in_default-via-else-class-lt6+else-class-lt13 w ↦
          let low : bar < k = omega arith in
          let in-low : left_brace ≤ k = omega arith in
          let a : k ≡ hyphen → ⊥ = λ e. omega arith in
          let b : k ≡ quote → ⊥ = λ e. omega arith in
          let d : k ≡ colon → ⊥ = λ e. omega arith in
          let f : k ≡ dot → ⊥ = λ e. omega arith in
          let g : k ≡ apostrophe → ⊥ = λ e. omega arith in
          simp (le-leb left_brace k in-low, lt-leb k bar low, ne_eqb k _ a, ne_eqb k _ b, ne_eqb k _ d, ne_eqb k _ f, ne_eqb k _ g) none
    ]
