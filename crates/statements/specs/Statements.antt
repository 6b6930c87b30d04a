-- The statements: what is promised of reading a module, of printing by DISPLAY-HINT and of the row answers, each under the sentence
-- of document 01, or of a request of document 02, that it puts into symbols. There is no proof here: `Statements`, the last record, holds
-- them all, and proofs/Statements.antt has a value of it.
--
-- Each is about a call's contract, which the call's `ensures` cites and which it is proved to keep whatever it is given: `Reads` for
-- reader::read, `Examines` for reader::examine, `PrintedOctets` for hint::octets, `PrintedInteger` for hint::integer, `Sets` for
-- row_status::set, and `ReadRaw`, `OctetsRaw`, `IntegerRaw` and `SetRaw` for the exported functions of crates/mib. A name with a prime
-- is what a call leaves.
-- Assumes nothing.
use Rattle.std.specs.Prelude.{◌≡◌, ◌⊎◌, ◌↔◌, Bool, true, Ok, Err, List, [], ◌∷◌, ◌++◌, ℕ, ◌+◌, ◌-◌, ◌*◌, ◌<◌, ◌≤◌, ℤ, negsuc, length, get_or, take, drop}
use Rattle.terminal.specs.Terminal.{lower}
use Rattle.lexicon.specs.Word.{bytes}
use Rattle.token.specs.Token.{class_of_token, tok}
use Rattle.token.specs.Cut.{cut, whole, refused, meanings_in}
use Rattle.token.specs.Law.{QuotedChange}
use Rattle.grammar.specs.Allowed.{allowed}
use Rattle.grammar.specs.Answer.{Begins}
use Rattle.grammar.specs.Grammar.{smi_module}
use Rattle.grammar.specs.Derivation.{Derivation, tokens_of, tree_of}
use Rattle.syntax.specs.Parsing.{Fault}
use Rattle.module_table.specs.Module.{Module, at, oid_of}
use Rattle.module_table.specs.Module.{count_of as definitions_in}
use Rattle.module_table.specs.declared.Lead.TheVariants.{Definition}
use Rattle.scope.specs.Token.{classes_of}
use Rattle.module_tree.specs.OfTree.{OfTree}
use Rattle.naming.specs.Values.{named}
use Rattle.oid_head.specs.Oid.{HasOid, has_value, name_of, Reaches}
use Rattle.records.specs.Record.{record_width}
use Rattle.reader.specs.Reading.{Outcome, module_of, records_of}
use Rattle.reader.specs.Buffers.{number_of, place_of, answered_count, record_words, number_words, zeros, filled, answer_to, examined_to, answer_of, ReadsAs, Reads, Examines, Answer, Examined, refused_by}
use Rattle.hint.specs.Answer as hint
use Rattle.hint.specs.Answer.{Answer as HintAnswer}
use Rattle.hint.specs.declared.Refusal.TheVariants.{ShortBuffer}
use Rattle.row_status.specs.RowStatus as row
use Rattle.mib.specs.Raw as raw
use Rattle.digit.specs.Digits.{glyph, digits, numeral}
use Rattle.row_status.specs.RowStatus.{Answer as RowAnswer}
use Rattle.statements.specs.Card.{card_text, record_of_t, record_of_a, card_numbers}
use Rattle.statements.specs.Ranges.{RangesInAnyOrder}
use Rattle.statements.specs.Searches.{Searches}
use Rattle.statements.specs.Breach.{WithinLimits, Cuts, Derives, InBreach, FirstBreach}
use Rattle.statements.specs.Printed.{NoAnswerChanged}

-- ---- Reading a module

-- a property of every call of reader::read: of the text, the answer, and each buffer as it is lent and as it is left
abbrev pub OfEveryRead : (List ℕ → Answer → List ℕ → List ℕ → List ℕ → List ℕ → Type 0) → Type 0
OfEveryRead P =
    (text : List ℕ) (answer : Answer) (records records' numbers numbers' : List ℕ) → Reads text answer records records' numbers numbers'
    → P text answer records records' numbers numbers'

-- The first demand: what is left in the two buffers.
pub record FirstDemand (text : List ℕ) (answer : Answer) (records records' numbers numbers' : List ℕ) : Type 0 where
  -- "1 and 2 change nothing"
  pub unchanged : (number_of answer ≡ 1) ⊎ (number_of answer ≡ 2) → (records' ≡ records) × (numbers' ≡ numbers)
  -- "the rest zero the working part"
  pub zeroed : 2 < number_of answer
      → (records' ≡ zeros record_words ++ drop record_words records) × (numbers' ≡ zeros number_words ++ drop number_words numbers)
  -- "Those words are the working part; others never change"
  pub beyond : (drop record_words records' ≡ drop record_words records) × (drop number_words numbers' ≡ drop number_words numbers)
  -- "unused working words are 0": those after the records, and those after the sub-identifiers
  pub unused : number_of answer ≡ 0
      → (drop (answered_count answer * record_width) (take record_words records') ≡ zeros (record_words - answered_count answer * record_width))
      × (drop (length (module_of (meanings_in text)).numbers) (take number_words numbers')
      ≡ zeros (number_words - length (module_of (meanings_in text)).numbers))

-- Definition k has this OID, and no other, by the relation that follows heads however far they lead.
abbrev pub OidIs : Module → ℕ → List ℕ → Type 0
OidIs m k oid =
    HasOid m (Definition (record { 0 = k })) oid
    × ((other : List ℕ) → HasOid m (Definition (record { 0 = k })) other → other ≡ oid)

-- word j of record k, both from 0 on
abbrev pub record_word : List ℕ → ℕ → ℕ → ℕ
record_word records k j = get_or records (k * record_width + j) 0

-- The second demand: the first broken rule, or the records and sub-identifiers of all definitions.
pub record SecondDemand (text : List ℕ) (answer : Answer) (records records' numbers numbers' : List ℕ) : Type 0 where
  -- "Given when the condition holds and no smaller number applies (3 to 6 together: the leftmost token), with the earliest place in
  -- breach"; 41 and 42 for 11: "both hold 11's place in the order together, the earlier use first"
  pub refused_exactly : (number place : ℕ)
      → (answer ≡ refused_by number place) ↔ FirstBreach text (length records) (length numbers) number place
  -- accepted, number 0, exactly when no rule is broken anywhere
  pub accepted_exactly : (number_of answer ≡ 0) ↔ ((number place : ℕ) → InBreach text (length records) (length numbers) number place → ⊥)
  -- "Accepted answers number 0, place 0 and the definition count; a refusal's count is 0"
  pub counted : number_of answer ≡ 0 → (place_of answer ≡ 0) × (answered_count answer ≡ definitions_in (module_of (meanings_in text)))
  pub not_counted : 0 < number_of answer → answered_count answer ≡ 0
  -- "Ten words each, in text order", and then zeros; the words beyond as they were
  pub recorded : number_of answer ≡ 0
      → records' ≡ filled record_words (records_of (cut text).tokens (module_of (meanings_in text))) records
  -- "Each definition's sub-identifiers fill the next free words, without gaps", and then zeros; the words beyond as they were
  pub numbered : number_of answer ≡ 0
      → numbers' ≡ filled number_words (module_of (meanings_in text)).numbers numbers
  -- "An OID is the head's OID followed by the parts' numbers": these are the sub-identifiers of each definition of a kind that has any,
  -- cut out of all of them by where they start and how many they are
  pub resolved : number_of answer ≡ 0 → (k : ℕ) → k < definitions_in (module_of (meanings_in text))
      → has_value (at (named (meanings_in text)) k) ≡ true
      → OidIs (named (meanings_in text)) k (oid_of (module_of (meanings_in text)) k)
  -- "first index and count of its sub-identifiers": words 3 and 4 of record k cut the OID of definition k out of the number buffer as it
  -- is left
  pub cut_out : number_of answer ≡ 0 → (k : ℕ) → k < answered_count answer → has_value (at (named (meanings_in text)) k) ≡ true
      → OidIs (named (meanings_in text)) k (take (record_word records' k 4) (drop (record_word records' k 3) numbers'))

-- The third demand, of a text within the limits that cuts into tokens: refusal 7 exactly when the grammar derives no such token
-- sequence; its place is the start of the first token after which no derived sequence, however long, can begin so, or the text's
-- length where only more was missing; and a derivation is unique.
pub record ThirdDemand (text : List ℕ) (answer : Answer) : Type 0 where
  pub exactly : (number_of answer ≡ 7) ↔ (Derives text → ⊥)
  pub at_fault : number_of answer ≡ 7 → Fault text (place_of answer)
  pub one_derivation : (d e : Derivation class_of_token smi_module) → tokens_of class_of_token smi_module d ≡ (cut text).tokens
      → tokens_of class_of_token smi_module e ≡ (cut text).tokens → d ≡ e

-- Two calls, of the texts a and b, with equal buffers lent: equal answers, and equal buffers left. `of` says what is answered to an
-- outcome: `answer_to` for reader::read, `examined_to` for reader::examine.
abbrev pub AlikeAs : {A : Type 0} → (Outcome → A) → List ℕ → List ℕ → Type 0
AlikeAs {A} of a b =
    (x y : A) (records r s numbers m n : List ℕ) → ReadsAs of a x records r numbers m → ReadsAs of b y records s numbers n
    → (x ≡ y) × (r ≡ s) × (m ≡ n)

abbrev pub ReadAlike : List ℕ → List ℕ → Type 0
ReadAlike = AlikeAs answer_to

abbrev pub ExaminedAlike : List ℕ → List ℕ → Type 0
ExaminedAlike = AlikeAs examined_to

-- ---- Printing by hint

-- A value printed to a buffer with a part of so many bytes, by its verdict: what is answered, and every byte of the buffer.
pub record Prints (part : ℕ) (verdict : hint.Verdict) (answer : HintAnswer) (before after : List ℕ) : Type 0 where
  -- "0 and the length"; "bytes of that part not printed are 0, later ones unchanged"
  pub printed : (t : List ℕ) → verdict ≡ hint.text t
      → (answer ≡ Ok (length t)) × (after ≡ t ++ (zeros (part - length t) ++ drop part before))
  -- "30 short buffer (nothing changed)"
  pub unchanged : (place : ℕ) → verdict ≡ hint.refusal 30 place → (answer ≡ Err ShortBuffer) × (after ≡ before)
  -- "31 to 34 zero the part"
  pub zeroed : (number place : ℕ) → verdict ≡ hint.refusal number place → (number ≡ 30 → ⊥)
      → (hint.number_of answer ≡ number) × (hint.place_of answer ≡ place) × (hint.length_of answer ≡ 0)
      × (after ≡ zeros part ++ drop part before)

-- ---- The exported functions

-- Two calls of one function with equal arguments leave every slice the same.
pub record Exported : Type 0 where
  pub read : (text records r s numbers m n answer x y : List ℕ)
      → raw.ReadRaw text records r numbers m answer x → raw.ReadRaw text records s numbers n answer y → (r ≡ s) × (m ≡ n) × (x ≡ y)
  pub print_octets : (display-hint octets out o p answer x y : List ℕ)
      → raw.OctetsRaw display-hint octets out o answer x → raw.OctetsRaw display-hint octets out p answer y → (o ≡ p) × (x ≡ y)
  pub print_integer : (display-hint : List ℕ) (value : ℤ) (out o p answer x y : List ℕ)
      → raw.IntegerRaw display-hint value out o answer x → raw.IntegerRaw display-hint value out p answer y → (o ≡ p) × (x ≡ y)
  pub set_row : (state : ℕ) (value : ℤ) (complete willing : ℕ) (answer x y : List ℕ)
      → raw.SetRaw state value complete willing answer x → raw.SetRaw state value complete willing answer y → x ≡ y

-- ---- Numbers that are gone

-- No call answers this number: neither of the reader's, nor what the exported one lays into the first word of an answer; none that prints,
-- and none that sets a row.
pub record NeverGiven (n : ℕ) : Type 0 where
  pub read : OfEveryRead (λ text answer records records' numbers numbers'. number_of answer ≡ n → ⊥)
  pub examine : (text : List ℕ) (examined : Examined) (records records' numbers numbers' : List ℕ)
      → Examines text examined records records' numbers numbers' → number_of (answer_of examined) ≡ n → ⊥
  pub exported_read : (text records records' numbers numbers' answer answer' : List ℕ)
      → raw.ReadRaw text records records' numbers numbers' answer answer' → 0 < length answer → get_or answer' 0 0 ≡ n → ⊥
  pub print : (answer : HintAnswer) → hint.number_of answer ≡ n → ⊥
  pub set_row : (answer : RowAnswer) → row.number_of answer ≡ n → ⊥

-- ---- The proved examples

-- every call with this text, and with buffers that are long enough, answers this refusal
abbrev pub RefusedBy : List ℕ → ℕ → ℕ → Type 0
RefusedBy text number place =
    (answer : Answer) (records records' numbers numbers' : List ℕ) → Reads text answer records records' numbers numbers'
    → record_words ≤ length records → number_words ≤ length numbers → answer ≡ refused_by number place

-- P1 to P8, from the definitions.
pub record Examples : Type 0 where
  -- `----` no token
  pub P1 : cut (bytes "----") ≡ record { tokens = []; ending = whole }
  -- `-----` refusal 3 at 4
  pub P2 : (cut (bytes "-----") ≡ record { tokens = []; ending = refused 3 4 }) × RefusedBy (bytes "-----") 3 4
  -- `a--b` the name a
  pub P3 : cut (bytes "a--b") ≡ record { tokens = tok lower 0 1 (bytes "a") ∷ []; ending = whole }
  -- 4294967296 refusal 6
  pub P4 : (cut (bytes "4294967296") ≡ record { tokens = []; ending = refused 6 0 }) × RefusedBy (bytes "4294967296") 6 0
  -- empty text: 7 at 0
  pub P5 : RefusedBy [] 7 0
  -- 02 0A 0B 05 under `*1d.:1d`: `10.11:5`
  pub P6 : hint.octets_verdict 4096 (bytes "*1d.:1d") (0x02 ∷ 0x0A ∷ 0x0B ∷ 0x05 ∷ []) ≡ hint.text (bytes "10.11:5")
  -- -5 under d-2: `-0.05`
  pub P7 : hint.integer_verdict 64 (bytes "d-2") (negsuc 4) ≡ hint.text (bytes "-0.05")
  -- C3 A9 under 255t prints both; under 255a, 33 at 0
  pub P8 : (hint.octets_verdict 4096 (bytes "255t") (0xC3 ∷ 0xA9 ∷ []) ≡ hint.text (0xC3 ∷ 0xA9 ∷ []))
      × (hint.octets_verdict 4096 (bytes "255a") (0xC3 ∷ 0xA9 ∷ []) ≡ hint.refusal 33 0)

-- The whole case of "The shelf card": every call with it, and with buffers that are long enough, answers `accepted 2`, and leaves these
-- two records and these sub-identifiers, and then zeros; the words beyond the working parts are as they were.
abbrev pub WholeCase : Type 0
WholeCase =
    (answer : Answer) (records records' numbers numbers' : List ℕ) → Reads card_text answer records records' numbers numbers'
    → record_words ≤ length records → number_words ≤ length numbers
    → (answer ≡ Ok 2) × (records' ≡ filled record_words (record_of_t ++ record_of_a) records)
    × (numbers' ≡ filled number_words card_numbers numbers)

-- ---- All of them

pub record Statements : Type 0 where
  pub first_demand : OfEveryRead FirstDemand
  pub second_demand : OfEveryRead SecondDemand
  -- two texts that differ only in allowed bytes strictly inside text tokens are answered and written alike
  pub quotes : (a b : List ℕ) → QuotedChange a b → ReadAlike a b
  pub third_demand : OfEveryRead
      (λ text answer records records' numbers numbers'.
      WithinLimits text (length records) (length numbers) → Cuts text → ThirdDemand text answer)
  -- what grammar::allows says, and explain by it, of what may stand where 7 refuses: exactly the classes with which some derived sequence,
  -- however long, begins so
  pub what_may_stand : (classes : List ℕ) → (allowed classes ≡ true) ↔ Begins smi_module classes
  -- the module that the rules are stated over is that of the text's derivation: its definitions with their kinds and fields are those of
  -- the identity and of the defs, its imports those of the groups, and each name that is used stands where the grammar has one of that sort
  pub of_derivation : (text : List ℕ) (d : Derivation class_of_token smi_module) → tokens_of class_of_token smi_module d ≡ (cut text).tokens
      → OfTree (classes_of (meanings_in text)) (tree_of class_of_token smi_module d)
  -- "A head has at least one and the grammar asks for a part after it": of derived tokens, each definition whose heads reach a built-in
  -- name, as 12 asks of all that are of a kind with an OID, has two numbers in its OID at least
  pub two_numbers : (text : List ℕ) → Derives text → (k : ℕ) → Reaches (named (meanings_in text)) (name_of k)
      → 2 ≤ length (oid_of (module_of (meanings_in text)) k)
  -- so rule 22 needs no test for that: "No answer changes"
  pub no_answer_changed : (text : List ℕ) (records numbers : ℕ) → NoAnswerChanged text records numbers
  -- "11 is no longer given"
  pub eleven_gone : NeverGiven 11
  -- "Correct the rule: any order, no number in two ranges"
  pub ranges : RangesInAnyOrder
  -- the contracts leave nothing open: number, place, count and each lent word are settled; of reader::examine, clause and other place too
  pub read_settled : (text : List ℕ) → ReadAlike text text
  pub examine_settled : (text : List ℕ) → ExaminedAlike text text
  -- the second demand's printed values, of octets and of integers
  pub octets : (display-hint value : List ℕ) (answer : HintAnswer) (before after : List ℕ)
      → hint.PrintedOctets display-hint value answer before after
      → Prints hint.octets_part (hint.octets_verdict (length before) display-hint value) answer before after
  pub integer : (display-hint : List ℕ) (value : ℤ) (answer : HintAnswer) (before after : List ℕ)
      → hint.PrintedInteger display-hint value answer before after
      → Prints hint.integer_part (hint.integer_verdict (length before) display-hint value) answer before after
  -- "Output never passes four bytes for each octet"
  pub four_bytes : (room : ℕ) (display-hint value t : List ℕ) → ((k : ℕ) → get_or value k 0 < 256)
      → hint.octets_verdict room display-hint value ≡ hint.text t → length t ≤ 4 * length value
  -- "Bases 2, 8, 10, 16 share one fact over the base": the digits of a number read back as it
  pub digits_back : (base n : ℕ) → 2 ≤ base → base ≤ 16 → numeral base 0 (digits base n) ≡ n
  -- "no leading zeros": 0 is one digit, and of no other number the first digit is 0
  pub zero_digits : (base : ℕ) → 2 ≤ base → digits base 0 ≡ glyph 0 ∷ []
  pub no_leading_zero : (base n : ℕ) → 2 ≤ base → 0 < n → get_or (digits base n) 0 0 ≡ glyph 0 → ⊥
  -- the contracts leave nothing open: two calls with equal arguments answer and print the same
  pub octets_settled : (display-hint value : List ℕ) (x y : HintAnswer) (before a b : List ℕ)
      → hint.PrintedOctets display-hint value x before a → hint.PrintedOctets display-hint value y before b → (x ≡ y) × (a ≡ b)
  pub integer_settled : (display-hint : List ℕ) (value : ℤ) (x y : HintAnswer) (before a b : List ℕ)
      → hint.PrintedInteger display-hint value x before a → hint.PrintedInteger display-hint value y before b → (x ≡ y) × (a ≡ b)
  -- the second demand's row answers: number and next state, "unchanged unless 0"
  pub row_answer : (state : ℕ) (value : ℤ) (complete willing : Bool) (answer : RowAnswer) → row.Sets state value complete willing answer
      → (row.number_of answer ≡ (row.row_status state value complete willing).number)
      × (row.next_of state answer ≡ (row.row_status state value complete willing).next)
      × ((row.number_of answer ≡ 0 → ⊥) → row.next_of state answer ≡ state)
  -- that contract leaves nothing open either
  pub row_settled : (state : ℕ) (value : ℤ) (complete willing : Bool) (x y : RowAnswer)
      → row.Sets state value complete willing x → row.Sets state value complete willing y → x ≡ y
  -- nor do those of the exported functions: each slice that is lent is settled, the answer's words with the others
  pub exported : Exported
  -- searches of the layers in plain words
  pub searches : Searches
  -- the whole case
  pub whole_case : WholeCase
  -- P1 to P8
  pub examples : Examples
