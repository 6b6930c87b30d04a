-- What the exported functions leave in each slice that they are lent, for any slices and any numbers.
-- Assumes nothing.
use Rattle.std.specs.Prelude.{◌≡◌, Bool, not, List, [], ◌∷◌, ℕ, eqb, ℤ, length}
use Rattle.reader.specs.Buffers.{number_of, place_of, answered_count, Answer, Reads}
use Rattle.hint.specs.Answer.{Verdict, octets_part, integer_part, octets_verdict, integer_verdict, number, place, size, buffer}
use Rattle.row_status.specs.RowStatus.{Outcome, row_status}

-- a slice with words laid over its first ones, as far as it reaches; those beyond stay as they were
unfoldable pub laid : List ℕ → List ℕ → List ℕ
laid [] slice = slice
laid (word ∷ words) [] = []
laid (word ∷ words) (old ∷ slice) = word ∷ laid words slice

-- Reading, the contract of mib_read_raw: the two buffers are as the reader's contract says, and the right answer's number, place and
-- count are laid over the answer's words.
pub record ReadRaw (text records records' numbers numbers' answer answer' : List ℕ) : Type 0 where
  pub right : Answer
  pub reads : Reads text right records records' numbers numbers'
  pub answer_is : answer' ≡ laid (number_of right ∷ place_of right ∷ answered_count right ∷ []) answer

-- Printing: the output is what the verdict makes of it, and the verdict's number, place and length are laid over the answer's words.
pub record PrintedRaw (part : ℕ) (verdict : Verdict) (out out' answer answer' : List ℕ) : Type 0 where
  pub out_is : out' ≡ buffer part verdict out
  pub answer_is : answer' ≡ laid (number verdict ∷ place verdict ∷ size verdict ∷ []) answer

-- the contracts of mib_print_octets_raw and of mib_print_integer_raw
abbrev pub OctetsRaw : List ℕ → List ℕ → List ℕ → List ℕ → List ℕ → List ℕ → Type 0
OctetsRaw hint octets out out' answer answer' = PrintedRaw octets_part (octets_verdict (length out) hint octets) out out' answer answer'

abbrev pub IntegerRaw : List ℕ → ℤ → List ℕ → List ℕ → List ℕ → List ℕ → Type 0
IntegerRaw hint value out out' answer answer' = PrintedRaw integer_part (integer_verdict (length out) hint value) out out' answer answer'

-- a flag is yes when it is not 0
abbrev pub is_yes : ℕ → Bool
is_yes flag = not (eqb flag 0)

-- the words of a row's outcome: its number and the next state
abbrev pub step_words : Outcome → List ℕ
step_words outcome = outcome.number ∷ outcome.next ∷ []

-- A row, the contract of mib_set_row_raw: the number and the next state that the table gives, laid over the answer's words.
abbrev pub SetRaw : ℕ → ℤ → ℕ → ℕ → List ℕ → List ℕ → Type 0
SetRaw state value complete willing answer answer' =
    answer' ≡ laid (step_words (row_status state value (is_yes complete) (is_yes willing))) answer
