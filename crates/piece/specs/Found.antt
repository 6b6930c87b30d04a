-- What the code answers to a piece.
-- Assumes nothing.
use Rattle.std.specs.Prelude.{ℕ, ◌+◌, Result, Ok, Err}
use Rattle.piece.specs.Piece.{Piece, gap, token, refusal, no_token, forbidden, long_name, out_of_range}
use Rattle.piece.specs.declared.Found.{Found}
use Rattle.piece.specs.declared.Cause.{Cause}
use Rattle.piece.specs.declared.Cause.TheVariants.{NoToken, Forbidden, LongName, OutOfRange}
use Rattle.piece.specs.declared.Refusal.{Refusal}

-- the refusal's number for each cause
abbrev pub number : Cause → ℕ
number NoToken = no_token
number Forbidden = forbidden
number LongName = long_name
number OutOfRange = out_of_range

-- the code's answer, a refusal by its number and its place
abbrev pub numbered : {A : Type 0} → Result A Refusal → Result A (ℕ × ℕ)
numbered (Ok found) = Ok found
numbered (Err r) = Err (number r.cause, r.place.0)

-- what the code answers where the text holds this piece at the place `at`: the gap's end, the token's class and its end, or the refusal
abbrev pub found_at : ℕ → Piece → Result Found (ℕ × ℕ)
found_at at (gap n) = Ok (Found.Gap (at + n))
found_at at (token c n) = Ok (Found.Token c (at + n))
found_at at (refusal r d) = Err (r, at + d)
