-- What a writer leaves in a buffer that it is lent.
-- Assumes nothing.
use Rattle.std.specs.Prelude.{◌≡◌, List, ℕ, length}
use Rattle.token.specs.Table.{overlaid}

-- these numbers are written to the start of a buffer, the rest of which is as it was, and how many they are is answered
pub record Written (numbers : List ℕ) (count : ℕ) (before after : List ℕ) : Type 0 where
  pub counted : count ≡ length numbers
  pub held : after ≡ overlaid numbers before
