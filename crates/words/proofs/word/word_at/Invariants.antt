-- The word asked for is the word of what is left of the line before which as many words stand as are still to be passed.
-- Assumes nothing.
use Rattle.std.proofs.Common.{◌≡◌, ◌-◌, ◌≤◌, length, drop}
use Rattle.words.specs.Words.{words, place}
use Rattle.words.proofs.word.word_at.Given as goal

abbrev pub invariant-loop : goal.invariant-loop
invariant-loop l =
    (l.from ≤ length l.line)
    × (place l.from (words l.separator (drop l.from l.line)) (l.index - l.counter) ≡ place 0 (words l.separator l.line) l.index)
