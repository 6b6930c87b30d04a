-- What a set of RowStatus does to a row: document 01, "RowStatus", clause by clause in its order.
-- Assumes nothing.
use Rattle.std.specs.Prelude.{ℕ, ◌≡◌, ◌<◌, Bool, true, false, Result, Ok, Err, ltb, eqb, ℤ, pos, negsuc}
use Rattle.row_status.specs.declared.State.{State}
use Rattle.row_status.specs.declared.State.TheVariants.{Absent, Active, NotInService, NotReady}
use Rattle.row_status.specs.declared.Refusal.{Refusal}
use Rattle.row_status.specs.declared.Refusal.TheVariants.{WrongValue, InconsistentValue, NoSuchState}

-- an answer in the paper's terms: its number, and the row's next state
pub record Outcome : Type 0 where
  pub number : ℕ
  pub next : ℕ

-- state 0: there is no row
abbrev pub none : ℕ
none = 0

-- state 1, and set value 1
abbrev pub active : ℕ
active = 1

-- state 2, and set value 2
abbrev pub notInService : ℕ
notInService = 2

-- state 3
abbrev pub notReady : ℕ
notReady = 3

-- 0 noError: the row moves to the state
abbrev pub noError : ℕ → Outcome
noError state = record { number = 0; next = state }

-- 10 wrongValue: the row stays in the state
abbrev pub wrongValue : ℕ → Outcome
wrongValue state = record { number = 10; next = state }

-- 12 inconsistentValue: the row stays in the state
abbrev pub inconsistentValue : ℕ → Outcome
inconsistentValue state = record { number = 12; next = state }

-- 40: there is no such state; it stays as it was
abbrev pub no_such_state : ℕ → Outcome
no_such_state state = record { number = 40; next = state }

-- the number of a state
abbrev pub state_number : State → ℕ
state_number Absent = none
state_number Active = active
state_number NotInService = notInService
state_number NotReady = notReady

-- what a number comes to as a state: the state with that number, or 40 for a number over 3
abbrev pub Decodes : ℕ → Result State Refusal → Type 0
Decodes number (Ok state) = state_number state ≡ number
Decodes number (Err refusal) = (refusal ≡ NoSuchState) × (3 < number)

-- what the call answers: the state that the row is in then, or why the set fails
abbrev pub Answer : Type 0
Answer = Result State Refusal

-- the number of each case of the call's answer
abbrev pub number_of : Answer → ℕ
number_of (Ok next) = 0
number_of (Err WrongValue) = 10
number_of (Err InconsistentValue) = 12
number_of (Err NoSuchState) = 40

-- the next state of a row in the state, for each case: unchanged unless the number is 0
abbrev pub next_of : ℕ → Answer → ℕ
next_of state (Ok next) = state_number next
next_of state (Err refusal) = state

-- both, for a row in the state
abbrev pub outcome : ℕ → Answer → Outcome
outcome state answer = record { number = number_of answer; next = next_of state answer }

-- the outcome a where the test holds, and b where it does not
infixr 1 when◌then◌else◌
abbrev pub when◌then◌else◌ : Bool → Outcome → Outcome → Outcome
when true then a else b = a
when false then a else b = b

-- "complete" before a state: the row moves to the next state if it is complete; else 12
abbrev pub if_complete : ℕ → Bool → ℕ → Outcome
if_complete state complete next = when complete then noError next else inconsistentValue state

-- Value 1 (active): from 1, 2 or complete 3 to 1. Else 12
abbrev pub set_active : ℕ → Bool → Outcome
set_active state complete =
    when eqb state active then noError active else
    when eqb state notInService then noError active else
    when eqb state notReady then if_complete state complete active else
    inconsistentValue state

-- Value 2 (notInService): 2 stays; from 1, if willing, to 2, unwilling 10; from complete 3 to 2. Else 12
abbrev pub set_not_in_service : ℕ → Bool → Bool → Outcome
set_not_in_service state complete willing =
    when eqb state notInService then noError notInService else
    when eqb state active then (when willing then noError notInService else wrongValue state) else
    when eqb state notReady then if_complete state complete notInService else
    inconsistentValue state

-- Value 4 (createAndGo): from complete 0 to 1. Else 12
abbrev pub createAndGo : ℕ → Bool → Outcome
createAndGo state complete =
    when eqb state none then if_complete state complete active else
    inconsistentValue state

-- Value 5 (createAndWait): from 0, if willing, to 2 if complete and 3 if not, unwilling 10. Else 12
abbrev pub createAndWait : ℕ → Bool → Bool → Outcome
createAndWait state complete willing =
    when eqb state none then
    (when willing then (when complete then noError notInService else noError notReady) else wrongValue state)
    else inconsistentValue state

-- the set value is the number
abbrev pub is_value : ℤ → ℕ → Bool
is_value (pos value) number = eqb value number
is_value (negsuc below) number = false

-- the answer to a set: a state over 3 answers 40 before all else; value 6 (destroy): to 0; any other value: 10
abbrev pub row_status : ℕ → ℤ → Bool → Bool → Outcome
row_status state value complete willing =
    when ltb 3 state then no_such_state state else
    when is_value value 1 then set_active state complete else
    when is_value value 2 then set_not_in_service state complete willing else
    when is_value value 4 then createAndGo state complete else
    when is_value value 5 then createAndWait state complete willing else
    when is_value value 6 then noError none else
    wrongValue state

-- the contract of row_status::set
abbrev pub Sets : ℕ → ℤ → Bool → Bool → Answer → Type 0
Sets state value complete willing answer = outcome state answer ≡ row_status state value complete willing
