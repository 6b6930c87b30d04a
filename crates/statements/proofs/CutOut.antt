-- Words 3 and 4 of a record cut the definition's OID out of the number buffer.
-- Assumes nothing.
use mathlib.Core.Path.{◌≡◌, refl, ap, ap₂, ◌∙◌}
use mathlib.Core.List.{List, ◌++◌, append_assoc}
use Prim.Native.Nat.{ℕ, ◌+◌, ◌-◌, ◌*◌, ◌<◌}
use native.Mathlib.Omega.{arith}
use lib.ListN.{length, get_or, take, drop, length-append, get_or-append}
use lib.Seq.{take_at}
use Rattle.token.specs.Token.{Meaning}
use Rattle.module_table.specs.Module.{Module, at, count_of}
use Rattle.naming.specs.Values.{named}
use Rattle.oid_head.specs.Oid.{resolved_oid, numbers_before, first_number}
use Rattle.oid_tree.specs.Stage.{with_oids}
use Rattle.records.specs.Record.{record_width, record_of, records_before}
use Rattle.records.proofs.Words.{before_long, word_at}
use Rattle.reader.specs.Reading.{module_of}
use Rattle.reader.specs.Buffers.{record_words, number_words, zeros, filled}
use Rattle.reader.proofs.Leaving.{module_oid}
use Rattle.statements.specs.Statements.{record_word}

module _ (ms : List Meaning) where
  abbrev m : Module
  m = named ms

  -- the two buffers as they are left
  module _ (starts ends records numbers : List ℕ) where
    abbrev left : List ℕ
    left = filled record_words (records_before starts ends (module_of ms).definitions (count_of (module_of ms))) records

    abbrev run : List ℕ
    run = filled number_words (module_of ms).numbers numbers

    word_left : (k j : ℕ) → k < count_of (module_of ms) → j < record_width
        → record_word left k j ≡ get_or (record_of starts ends (at (module_of ms) k)) j 0
    word_left k j h l =
        let words = records_before starts ends (module_of ms).definitions (count_of (module_of ms)) in
        let inside : k * record_width + j < length words = omega (arith, before_long starts ends (module_of ms).definitions (count_of (module_of ms))) in
        get_or-append (words ++ zeros (record_words - length words)) (drop record_words records) 0 (k * record_width + j)
        (omega (arith, length-append words (zeros (record_words - length words))))
        ∙ get_or-append words (zeros (record_words - length words)) 0 (k * record_width + j) inside
        ∙ word_at starts ends (module_of ms).definitions (count_of (module_of ms)) k j h l

    numbers_first : take (first_number m (count_of m)) run ≡ numbers_before m (count_of m)
    unfolding with_oids
    numbers_first =
        ap (take (first_number m (count_of m))) (append_assoc (numbers_before m (count_of m)) _ _)
        ∙ take_at (numbers_before m (count_of m)) _ (first_number m (count_of m)) refl

    pub words_cut : (k : ℕ) → k < count_of (module_of ms)
        → take (record_word left k 4) (drop (record_word left k 3) run) ≡ resolved_oid m k
    unfolding record_of
    words_cut k l =
        ap₂ (λ (count start : ℕ). take count (drop start run)) (word_left k 4 l (omega arith)) (word_left k 3 l (omega arith))
        ∙ module_oid ms run numbers_first k
