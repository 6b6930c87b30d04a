-- What the calls answer and what they leave in the two buffers, for any text and any buffers.
-- Assumes nothing.
use Rattle.std.specs.Prelude.{◌≡◌, ◌⊎◌, List, [], ◌++◌, ℕ, ◌-◌, ◌*◌, ◌≤◌, ◌<◌, length, get_or, drop, replicate, Result, Ok, Err}
use Rattle.rule.specs.Rule.{Judgement}
use Rattle.rule.specs.declared.Finding.{Finding}
use Rattle.token.specs.Token.{Meaning}
use Rattle.naming.specs.Told.{Names}
use Rattle.token.specs.Table.{longest_text, overlaid}
use Rattle.module_table.specs.Module.{most_definitions, count_of}
use Rattle.oid_tree.specs.Refusal.{most_numbers}
use Rattle.records.specs.Record.{record_width}
use Rattle.syntax.specs.Parsing.{Parses}
use Rattle.syntax.specs.Parsing.{Parsing}
use Rattle.syntax.specs.Parsing.{Derived, Underived, Uncut}
use Rattle.reader.specs.Reading.{Outcome, accepted, refused, module_of, outcome}
use Rattle.reader.specs.declared.PlainRefusal.{PlainRefusal}
use Rattle.reader.specs.declared.Refusal.{Refusal}

-- the answer to a text with all that there is to say: so many definitions, or a refusal; and the answer by number and place alone
abbrev pub Examined : Type 0
Examined = Result ℕ Refusal

abbrev pub Answer : Type 0
Answer = Result ℕ PlainRefusal

-- refused by this number, at this place
abbrev pub refused_by : ℕ → ℕ → Answer
refused_by number place = Err (record { number = number; place = record { 0 = place } })

-- the number, the place and the definition count of each case of the answer
abbrev pub number_of : Answer → ℕ
number_of (Ok count) = 0
number_of (Err r) = r.number

abbrev pub place_of : Answer → ℕ
place_of (Ok count) = 0
place_of (Err r) = r.place.0

abbrev pub answered_count : Answer → ℕ
answered_count (Ok count) = count
answered_count (Err r) = 0

-- the working parts, in words: of the record buffer, a record for each of the most definitions, 5,120; of the number buffer, the most
-- numbers that all OIDs may have, 8,192
abbrev pub record_words : ℕ
record_words = most_definitions * record_width

abbrev pub number_words : ℕ
number_words = most_numbers

-- so many zeros
abbrev pub zeros : ℕ → List ℕ
zeros n = replicate n 0

-- a buffer whose working part holds these words and then zeros; the words beyond it are as they were
abbrev pub filled : ℕ → List ℕ → List ℕ → List ℕ
filled size words before = (words ++ zeros (size - length words)) ++ drop size before

-- the answer to an outcome; the same with the rule's clause and the other place; and the words that each buffer's working part holds:
-- after a refusal all are zero
abbrev pub answer_to : Outcome → Answer
answer_to (accepted count records numbers) = Ok count
answer_to (refused number clause place other) = refused_by number place

abbrev pub examined_to : Outcome → Examined
examined_to (accepted count records numbers) = Ok count
examined_to (refused number clause place other) =
    Err (record { number = number; clause = clause; place = record { 0 = place }; other = record { 0 = other } })

abbrev pub records_in : Outcome → List ℕ
records_in (accepted count records numbers) = records
records_in (refused number clause place other) = []

abbrev pub numbers_in : Outcome → List ℕ
numbers_in (accepted count records numbers) = numbers
numbers_in (refused number clause place other) = []

-- what is answered of an examined text to one who asks for number, place and count alone
abbrev pub plain : Refusal → PlainRefusal
plain r = record { number = r.number; place = r.place }

abbrev pub answer_of : Examined → Answer
answer_of (Ok count) = Ok count
answer_of (Err r) = Err (plain r)

-- What the steps within leave: where the text is accepted, its words lie at the start of each buffer, and the rest is as it was; after
-- a refusal the record buffer is as it was, and the number buffer as long.
abbrev pub Laid : Outcome → List ℕ → List ℕ → List ℕ → List ℕ → Type 0
Laid (accepted count words sub_identifiers) records records' numbers numbers' =
    (records' ≡ overlaid words records) × (numbers' ≡ overlaid sub_identifiers numbers)
Laid (refused number clause place other) records records' numbers numbers' = (records' ≡ records) × (length numbers' ≡ length numbers)

-- a refusal that is about one place alone
abbrev pub alone : ℕ → ℕ → Examined
alone number place =
    Err (record { number = number; clause = 0; place = record { 0 = place }; other = record { 0 = place } })

-- what there is to say of a broken rule; `starts` are where the tokens start
abbrev pub refusal_by : List ℕ → Finding → Refusal
refusal_by starts f = record {
  number = f.number;
  clause = f.clause;
  place = record { 0 = get_or starts f.token.0 0 };
  other = record { 0 = get_or starts f.other.0 0 };
}

-- what the rules say of a module that is read: all are kept, and it has so many definitions; or one is broken
abbrev pub counted : List Meaning → Judgement → Names
counted ms (Ok _) = Ok (count_of (module_of ms))
counted ms (Err f) = Err f

-- the answer to a text that is not derived
abbrev pub unparsed : Parsing → Examined
unparsed (Derived n) = Ok 0
unparsed (Underived n at) = alone 7 at.0
unparsed (Uncut number at) = alone number at.0

-- What reading a text within the limit into two buffers answers and leaves, by the right answer to its parsing.
pub record ReadInto (text : List ℕ) (answer : Examined) (records records' numbers numbers' : List ℕ) : Type 0 where
  pub parsing : Parsing
  pub right : Parses text parsing
  pub answered : answer ≡ examined_to (outcome text parsing)
  pub laid : Laid (outcome text parsing) records records' numbers numbers'

-- What reading into the working parts leaves: the words that were read, and then zeros.
pub record ReadParts (text : List ℕ) (answer : Examined) (records numbers : List ℕ) : Type 0 where
  pub parsing : Parsing
  pub right : Parses text parsing
  pub answered : answer ≡ examined_to (outcome text parsing)
  pub records_left : records ≡ records_in (outcome text parsing) ++ zeros (record_words - length (records_in (outcome text parsing)))
  pub numbers_left : numbers ≡ numbers_in (outcome text parsing) ++ zeros (number_words - length (numbers_in (outcome text parsing)))

-- the answer is right, and the two buffers hold these words
pub record Left {A : Type 0} (answer right : A) (records words numbers sub_identifiers : List ℕ) : Type 0 where
  pub answered : answer ≡ right
  pub records_left : records ≡ words
  pub numbers_left : numbers ≡ sub_identifiers

-- The right answer to any text and any buffers, with every word of both buffers as the call leaves them; `of` says what is answered to
-- an outcome.
pub record ReadsAs {A : Type 0} (of : Outcome → A) (text : List ℕ) (answer : A) (records records' numbers numbers' : List ℕ) : Type 0 where
  -- 1: a lent buffer too short; nothing changes
  pub short : (length records < record_words) ⊎ (length numbers < number_words)
      → Left answer (of (refused 1 0 0 0)) records' records numbers' numbers
  -- 2: a text over 65,536 bytes; nothing changes
  pub long : record_words ≤ length records → number_words ≤ length numbers → longest_text < length text
      → Left answer (of (refused 2 0 0 0)) records' records numbers' numbers
  -- any other text is read, by the right answer to its parsing
  pub read : record_words ≤ length records → number_words ≤ length numbers → length text ≤ longest_text
      → (p : Parsing) × Parses text p
      × Left answer (of (outcome text p))
      records' (filled record_words (records_in (outcome text p)) records)
      numbers' (filled number_words (numbers_in (outcome text p)) numbers)

-- the contract of reading: number, place and count
abbrev pub Reads : List ℕ → Answer → List ℕ → List ℕ → List ℕ → List ℕ → Type 0
Reads = ReadsAs answer_to

-- the contract of examining: the same, with the clause of the rule that is broken and the other place
abbrev pub Examines : List ℕ → Examined → List ℕ → List ℕ → List ℕ → List ℕ → Type 0
Examines = ReadsAs examined_to
