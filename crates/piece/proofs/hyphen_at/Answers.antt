-- `hyphen_at` is right because it asks the next byte's class what the definition asks.
-- Assumes nothing.
use Rattle.std.proofs.Common.{◌≡◌, ◌+◌, ◌<◌, ◌∙◌, sym, length, List, ℕ, arith}
use borrow.Author.Tests.{ne_eqb}
use Rattle.lexicon.specs.Byte.{hyphen, digit}
use Rattle.lexicon.proofs.Places.{rest_at, first_class, inside}
use Rattle.piece.specs.Piece.{after_hyphen}
use Rattle.piece.specs.declared.Cause.TheVariants.{NoToken}
use Rattle.piece.proofs.Answered.{refused}
use Rattle.piece.proofs.hyphen_at.Goals as goal

pub comment_end-requires : goal.comment_end-requires
comment_end-requires c =
    let next : c.args.at + 1 < length c.args.text.now =
    inside c.args.text.now (c.args.at + 1) hyphen (sym c.class_at.ensures ∙ c.in-16.is) (omega arith) in
    omega arith

pub returns-in-16 : goal.returns-in-16
unfolding after_hyphen
returns-in-16 c =
    let t : List ℕ = c.args.text.now in
    let rest = rest_at t (c.args.at + 1) 1 (c.args.at + 2) (omega arith) in
    simp (first_class t (c.args.at + 1) c.class_at.ensures, c.in-16.is, rest) c.comment_end.ensures

pub returns-in-2 : goal.returns-in-2
unfolding after_hyphen
returns-in-2 c =
    simp (first_class c.args.text.now (c.args.at + 1) c.class_at.ensures, c.in-2.is) c.negative_at.ensures

pub returns-in_default : goal.returns-in_default
unfolding after_hyphen
returns-in_default c =
    let none = refused c.at.result NoToken c.args.at (c.args.at + 0) c.at.ensures (omega arith) in
    let one : c.class_at.result ≡ hyphen → ⊥ = λ e. omega arith in
    let other : c.class_at.result ≡ digit → ⊥ = λ e. omega arith in
    simp (first_class c.args.text.now (c.args.at + 1) c.class_at.ensures, ne_eqb _ _ one, ne_eqb _ _ other) none
