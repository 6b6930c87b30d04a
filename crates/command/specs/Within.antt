-- That what is found in a buffer lies inside it. Assumes nothing.
use Rattle.std.specs.Prelude.{ℕ, ◌≤◌, Option, Some, None, Result, Ok, Err}
use Rattle.command.specs.declared.line.Lines.{Lines}
use Rattle.command.specs.declared.line.Part.{Part}
use Rattle.command.specs.declared.line.LineError.{LineError}

-- the bytes read and not used yet stand in a buffer of that length
pub record LinesWithin (lines : Lines) (size : ℕ) : Type 0 where
  pub ordered : lines.from ≤ lines.to
  pub inside : lines.to ≤ size

-- the bytes from one index up to the other stand in a buffer of that length
pub record PartWithin (from to size : ℕ) : Type 0 where
  pub ordered : from ≤ to
  pub inside : to ≤ size

-- a line stands in a buffer of that length
abbrev pub LineWithin : Result (Option Part) LineError → ℕ → Type 0
LineWithin (Ok (Some part)) size = PartWithin part.from part.to size
LineWithin (Ok None) size = Unit {0}
LineWithin (Err error) size = Unit {0}

-- the number that stands for no line
abbrev pub no_line : ℕ
no_line = 18446744073709551615
