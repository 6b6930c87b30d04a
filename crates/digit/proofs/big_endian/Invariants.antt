-- The octets that are left, after those that were read, are worth the same. What was read fits so many octets.
-- Assumes nothing.
use Rattle.std.proofs.Common.{◌≡◌, ◌<◌, ◌^◌, drop}
use Rattle.digit.specs.Digits.{big_endian}
use Rattle.digit.proofs.big_endian.Given as goal

abbrev pub invariant-loop-octet : goal.invariant-loop-octet
invariant-loop-octet l = (big_endian l.n (drop l.octet-index l.s) ≡ big_endian 0 l.s) × (l.n < 256 ^ l.octet-index)
