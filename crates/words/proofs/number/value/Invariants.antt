-- The value so far and the digits left make the whole value, up to the limit. Assumes nothing.
use Rattle.std.proofs.Common.{◌≡◌, true, ◌≤◌, min, drop}
use Rattle.words.specs.Decimal.{all_digits, decimal_after, limit}
use Rattle.words.proofs.number.value.Given as goal

abbrev pub invariant-loop-digit : goal.invariant-loop-digit
invariant-loop-digit l =
    record {
      limited : l.n ≤ limit;
      digits : all_digits (drop l.digit-index l.digits) ≡ true;
      same : min (decimal_after l.n (drop l.digit-index l.digits)) limit ≡ min (decimal_after 0 l.digits) limit;
    }
