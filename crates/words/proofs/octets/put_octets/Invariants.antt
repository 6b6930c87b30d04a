-- The octets that were put and those that the bytes left write are always what the word writes. No octet is put past the bytes that were
-- read. Assumes nothing.
use Rattle.std.proofs.Common.{◌≡◌, ◌≤◌, take, drop}
use Rattle.words.specs.Octets.{octets_from}
use Rattle.words.specs.declared.octets.Before.TheVariants.{Nothing}
use Rattle.words.proofs.OctetLaws.{whole}
use Rattle.words.proofs.octets.put_octets.Given as goal

abbrev pub invariant-loop-i : goal.invariant-loop-i
invariant-loop-i l =
    record {
      few : l.n ≤ l.i;
      same : whole (take l.n l.out) (octets_from l.before (drop l.i l.word)) ≡ octets_from Nothing l.word;
    }
