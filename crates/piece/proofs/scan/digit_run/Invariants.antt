-- What was passed are digits, and the value is theirs.
-- Assumes nothing.
use Rattle.std.proofs.Common.{◌≡◌, ◌-◌, take, drop}
use Rattle.lexicon.specs.Byte.{digit_byte}
use Rattle.piece.specs.Decimal.{decimal, capped}
use Rattle.piece.proofs.Span.{Reached}
use Rattle.piece.proofs.scan.digit_run.Given as goal

abbrev pub invariant-loop-i : goal.invariant-loop-i
invariant-loop-i l =
    Reached digit_byte l.fn.text l.fn.at l.i × (l.value ≡ capped (decimal (take (l.i - l.fn.at) (drop l.fn.at l.fn.text))))
