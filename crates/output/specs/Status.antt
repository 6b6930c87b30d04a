-- The status that a program ends with: the worst of what happened. Assumes nothing.
use Rattle.std.specs.Prelude.{ℕ, ◌+◌, ◌-◌, true, ◌⊎◌, ◌≡◌}
use Rattle.output.specs.declared.Output.{Output}
use Rattle.output.specs.declared.status.Status.{Status}
use Rattle.output.specs.declared.status.Status.TheVariants.{Accepted, Refused, Complaint}

-- all was answered and accepted
abbrev pub accepted : ℕ
accepted = 0

-- something was refused
abbrev pub refused : ℕ
refused = 1

-- there was a complaint
abbrev pub complaint : ℕ
complaint = 2

-- a status as the number that the program ends with, the worse the larger
abbrev pub rank : Status → ℕ
rank Accepted = accepted
rank Refused = refused
rank Complaint = complaint

-- what the number of an answer comes to: 0 is accepted, and any other is refused
abbrev pub rating : ℕ → ℕ
rating number = number - (number - refused)

-- the larger of two numbers
abbrev pub larger : ℕ → ℕ → ℕ
larger a b = a + (b - a)

-- the status is that number, and what was lost stays lost
pub record Rated (before : Output) (number : ℕ) (after : Output) : Type 0 where
  pub status : rank after.status ≡ number
  pub lost : after.lost ≡ before.lost

-- nothing changed; or a write failed, which is a complaint, and nothing is written after it
abbrev pub Printed : Output → Output → Type 0
Printed before after = (after ≡ before) ⊎ ((rank after.status ≡ complaint) × (after.lost ≡ true))
