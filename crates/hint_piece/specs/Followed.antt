-- What printing by a piece, and by all of them, promises of the output buffer.
-- Assumes nothing.
use Rattle.std.specs.Prelude.{ℕ, List, Result, Ok, Err}
use Rattle.buffer.specs.Buffer.{Wrote}
use Rattle.hint_piece.specs.Use.{Outcome, printed, fault}
use Rattle.hint_piece.specs.declared.BadOctet.{BadOctet}

-- an outcome's bytes are written at a place and the place after them is answered, or its fault is refused
pub data Followed : Outcome → ℕ → Result ℕ BadOctet → List ℕ → List ℕ → Type 0 where
  wrote : {bytes before after : List ℕ} {at next : ℕ} → Wrote bytes at next before after
      → Followed (printed bytes) at (Ok next) before after
  failed : {before after : List ℕ} {at place : ℕ} → Followed (fault place) at (Err (record { 0 = place })) before after
