-- What the code answers to a text.
-- Assumes nothing.
use Rattle.std.specs.Prelude.{ℕ, Result, Ok, Err}
use Rattle.piece.specs.Found.{number}
use Rattle.syntax.specs.Parsing.{Parsing}
use Rattle.syntax.specs.declared.Unparsed.{Unparsed}
use Rattle.syntax.specs.declared.Unparsed.TheVariants as unparsed

-- what an answer of the code says, a refusal by its number
abbrev pub parsing : Result ℕ Unparsed → Parsing
parsing (Ok n) = Parsing.Derived n
parsing (Err (unparsed.Underived n at)) = Parsing.Underived n at
parsing (Err (unparsed.Uncut r)) = Parsing.Uncut (number r.cause) r.place
