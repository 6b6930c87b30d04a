-- The run of bytes that the code passes.
-- Assumes nothing.
use Rattle.std.specs.Prelude.{Bool, true, false, ℕ, ◌≤◌, ◌<◌}

-- where a test of the places of a text, told by what its calls may answer, ends a run that starts at `at`: each place of the run
-- passed it, and the place at the end did not, or is the text's end
pub record EndsRun (answers : ℕ → Bool → Type 0) (size at end : ℕ) : Type 0 where
  pub from : at ≤ end
  pub inside : end ≤ size
  pub passed : (i : ℕ) → at ≤ i → i < end → answers i true
  pub stopped : end < size → answers end false
