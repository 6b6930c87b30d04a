-- What the contract of a set of RowStatus says: the answer's number and next state, and that there is one answer.
-- Assumes nothing.
use mathlib.Core.Path.{◌≡◌, refl, sym, ap, ◌∙◌}
use mathlib.Core.Bool.{cond}
use Prim.Native.Nat.{ℕ}
use lib.Dec.{eqb}
use Rattle.row_status.specs.RowStatus.{Answer, Outcome, number_of, next_of, outcome}
use Rattle.row_status.specs.declared.State.{State}
use Rattle.row_status.specs.declared.State.TheVariants.{Absent, Active, NotInService, NotReady}
use Rattle.row_status.specs.declared.Refusal.TheVariants.{WrongValue, InconsistentValue, NoSuchState}
use Rattle.std.proofs.Common.{Ok, Err}

-- unless the number is 0 the row keeps its state
pub state_kept : (state : ℕ) (answer : Answer) → (number_of answer ≡ 0 → ⊥) → next_of state answer ≡ state
state_kept state (Ok next) other = absurd (other refl)
state_kept state (Err refusal) other = refl

-- the state with a number
abbrev state_of : ℕ → State
state_of n = cond (eqb n 0) Absent (cond (eqb n 1) Active (cond (eqb n 2) NotInService NotReady))

-- the answer that has this outcome
abbrev answer_with : Outcome → Answer
answer_with o =
    cond (eqb o.number 0) (Ok (state_of o.next))
    (Err (cond (eqb o.number 10) WrongValue (cond (eqb o.number 12) InconsistentValue NoSuchState)))

by_outcome : (state : ℕ) (x : Answer) → x ≡ answer_with (outcome state x)
by_outcome state (Ok Absent) = refl
by_outcome state (Ok Active) = refl
by_outcome state (Ok NotInService) = refl
by_outcome state (Ok NotReady) = refl
by_outcome state (Err WrongValue) = refl
by_outcome state (Err InconsistentValue) = refl
by_outcome state (Err NoSuchState) = refl

pub same_answer : (state : ℕ) (x y : Answer) → outcome state x ≡ outcome state y → x ≡ y
same_answer state x y e = by_outcome state x ∙ ap answer_with e ∙ sym (by_outcome state y)
