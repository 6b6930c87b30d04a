-- `mark_at` is right because it asks of what follows the first byte what the definition asks.
-- Assumes nothing.
use Rattle.std.proofs.Common.{◌≡◌, ◌+◌, ◌-◌, ◌∙◌, sym, ap, Bool, List, ℕ, arith, length, length-drop, take, drop}
use Rattle.std.proofs.lemmas.List.{take_all}
use Rattle.std.specs.List.{starts_with}
use lib.Dec.{eqb}
use Rattle.piece.specs.Piece.{marked}
use Rattle.piece.specs.declared.Cause.TheVariants.{NoToken}
use Rattle.piece.proofs.Answered.{token, refused}
use Rattle.piece.proofs.mark_at.Goals as goal

-- the part of the text that is asked is all that follows
asked : (t rest : List ℕ) (at : ℕ) {r b : Bool} → r ≡ starts_with eqb (take (length t - at) (drop at t)) rest → r ≡ b
    → starts_with eqb (drop at t) rest ≡ b
asked t rest at q h =
    let all = take_all (length t - at) (drop at t) (omega (arith, length-drop at t)) in
    ap (λ (s : List ℕ). starts_with eqb s rest) (sym all) ∙ sym q ∙ h

pub returns-then-starts_with : goal.returns-then-starts_with
unfolding marked
returns-then-starts_with c =
    let h = asked c.args.text.now c.args.rest.now (c.args.at + 1) c.starts_with.ensures.value c.if-starts_with.true in
    simp h (token c.args.class _ _ (omega arith))

pub returns : goal.returns
unfolding marked
returns c =
    let h = asked c.args.text.now c.args.rest.now (c.args.at + 1) c.starts_with.ensures.value c.if-starts_with.false in
    simp h (refused _ NoToken _ _ c.at.ensures (omega arith))
