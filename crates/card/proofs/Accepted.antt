-- What an accepted answer tells the program: the text is within the limit, and so the definitions are within theirs.
-- Assumes nothing.
use mathlib.Core.Path.{◌≡◌, sym, ap, ◌∙◌}
use mathlib.Core.List.{List}
use Prim.Native.Nat.{ℕ, ◌*◌, ◌≤◌, ◌<◌}
use native.Mathlib.Decide.{dec_lt}
use native.Mathlib.Omega.{arith}
use lib.ListN.{length}
use Rattle.std.proofs.Common.{replicate}
use Rattle.std.proofs.lemmas.List.{length-replicate}
use Rattle.rule.proofs.Judged.{judged_kept}
use Rattle.token.specs.Cut.{meanings_in}
use Rattle.token.specs.Table.{longest_text}
use Rattle.module_table.specs.Module.{most_definitions}
use Rattle.reader.specs.Reading.{Outcome, rules}
use Rattle.reader.proofs.Kept.{few_definitions, accepted_kept}
use Rattle.reader.specs.Buffers.{record_words, number_words, Answer, refused_by, answer_to, Reads}
use Rattle.reader.specs.Buffers.{answered_count as count-in}
use Rattle.std.specs.Prelude.{Ok}

module _ (text : List ℕ) (count : ℕ) where
  module _ (answer : Answer) (records r numbers n : List ℕ) (reads : Reads text answer records r numbers n)
      (room : record_words ≤ length records) (space : number_words ≤ length numbers) (accepted : answer ≡ Ok count) where
    accepted_within : length text ≤ longest_text
    accepted_within = go (dec_lt longest_text (length text))
      where
        go : Dec (longest_text < length text) → length text ≤ longest_text
        go (yes over) =
            let same : ◌≡◌ {A = Answer} (Ok count) (refused_by 2 0) = sym accepted ∙ (reads.long room space over).answered in
            let z : ◌≡◌ {A = ℕ} 0 1 = cc in
            absurd (omega arith)
        go (no within) = omega (arith, within)

    pub accepted_few : count ≤ most_definitions
    accepted_few =
        let i = reads.read room space accepted_within in
        let same = sym accepted ∙ i.2.answered in
        let kept = accepted_kept text i.0 count (sym same) in
        let counted = ap count-in same ∙ ap (λ (o : Outcome). count-in (answer_to o)) kept.1 in
        omega (arith, counted, few_definitions (meanings_in text) (judged_kept (rules (meanings_in text)) kept.0))

-- of an accepted text all records lie in the program's buffer
pub accepted_records : (text : List ℕ) (count : ℕ) (answer : Answer) (r n : List ℕ)
    → Reads text answer (replicate record_words 0) r (replicate number_words 0) n → answer ≡ Ok count → 10 * count ≤ record_words
accepted_records text count answer r n reads accepted =
    let size = length-replicate {A = ℕ} record_words 0 in
    let room = length-replicate {A = ℕ} number_words 0 in
    let few = accepted_few text count answer (replicate record_words 0) r (replicate number_words 0) n reads (omega (arith, size)) (omega (arith, room)) accepted in
    omega (arith, few)
