-- The call's answer as a verdict.
-- Assumes nothing.
use Rattle.grammar.specs.Answer.{Verdict, derived, refused}
use Rattle.std.specs.Prelude.{Result, Ok, Err}
use Rattle.index.specs.declared.TokenIndex.{TokenIndex}

-- `Ok` is derived, and `Err` is refused at the token of its index
abbrev pub verdict : {A : Type 0} → Result A TokenIndex → Verdict
verdict (Ok derives) = derived
verdict (Err i) = refused i.0
