-- What the two calls answer and leave in the output buffer (document 01, "Printing by hint"): number, place, length, and
-- every byte.
-- Assumes nothing.
use Rattle.std.specs.Prelude.{ℕ, ◌-◌, ◌≡◌, cond, List, Option, Some, None, Result, Ok, Err, ◌++◌, ltb, eqb, length, drop, replicate, ℤ}
use Rattle.index.specs.Choice.{when◌then◌else◌}
use Rattle.hint_form.specs.Hint.{Reading, pieces, none, read_hint}
use Rattle.hint_integer.specs.Form.{read_form}
use Rattle.hint_piece.specs.Use.{Outcome, printed, fault}
use Rattle.hint_integer.specs.declared.Form.{Form}
use Rattle.hint_integer.specs.Signed.{signed, in_range}
use Rattle.hint.specs.Print.{printing}
use Rattle.hint.specs.declared.Refusal.{Refusal}
use Rattle.hint.specs.declared.Refusal.TheVariants.{ShortBuffer, LongValue, BadHint, BadOctet, OutOfRange}

-- what a value comes to under a hint: its text, or a refusal with number and place
pub data Verdict : Type 0 where
  text : List ℕ → Verdict
  refusal : ℕ → ℕ → Verdict

-- the part of the buffer that the call for octets works on
abbrev pub octets_part : ℕ
octets_part = 4096

-- and the call for an integer
abbrev pub integer_part : ℕ
integer_part = 64

-- refusal 33, or the text
unfoldable pub of_outcome : Outcome → Verdict
of_outcome (printed t) = text t
of_outcome (fault place) = refusal 33 place

-- refusal 32, or printing by the pieces
unfoldable pub by_pieces : Reading → List ℕ → Verdict
by_pieces (pieces ps) value = of_outcome (printing ps value)
by_pieces none value = refusal 32 0

-- octets, with an output buffer of so many bytes: refusals in the order 30, 31, 32, 33
unfoldable pub octets_verdict : ℕ → List ℕ → List ℕ → Verdict
octets_verdict room hint value =
    when ltb room octets_part then refusal 30 0
    else when ltb 1024 (length value) then refusal 31 0
    else by_pieces (read_hint hint) value

-- refusal 32, then 34, or the text
unfoldable pub by_form : Option Form → ℤ → Verdict
by_form (Some form) value = cond (in_range value) (text (signed (Some form) value)) (refusal 34 0)
by_form None value = refusal 32 0

-- an integer, with an output buffer of so many bytes: refusals in the order 30, 32, 34
unfoldable pub integer_verdict : ℕ → List ℕ → ℤ → Verdict
integer_verdict room hint value = cond (ltb room integer_part) (refusal 30 0) (by_form (read_form hint) value)

-- a verdict's number: 0 for a text
unfoldable pub number : Verdict → ℕ
number (text t) = 0
number (refusal n place) = n

-- its place: 0 for a text
unfoldable pub place : Verdict → ℕ
place (text t) = 0
place (refusal n at) = at

-- its length: 0 for a refusal
unfoldable pub size : Verdict → ℕ
size (text t) = length t
size (refusal n at) = 0

-- the buffer afterwards: the text, zeros up to the part's end, and the later bytes as they were; 30 changes nothing
unfoldable pub buffer : ℕ → Verdict → List ℕ → List ℕ
buffer part (text t) before = t ++ (replicate (part - length t) 0 ++ drop part before)
buffer part (refusal n at) before = cond (eqb n 30) before (replicate part 0 ++ drop part before)

-- what a call answers: the text's length, or why it prints nothing
abbrev pub Answer : Type 0
Answer = Result ℕ Refusal

-- the paper's number for each case of the answer
abbrev pub number_of : Answer → ℕ
number_of (Ok n) = 0
number_of (Err ShortBuffer) = 30
number_of (Err LongValue) = 31
number_of (Err BadHint) = 32
number_of (Err (BadOctet at)) = 33
number_of (Err OutOfRange) = 34

-- its place
abbrev pub place_of : Answer → ℕ
place_of (Ok n) = 0
place_of (Err ShortBuffer) = 0
place_of (Err LongValue) = 0
place_of (Err BadHint) = 0
place_of (Err (BadOctet at)) = at
place_of (Err OutOfRange) = 0

-- its length
abbrev pub length_of : Answer → ℕ
length_of (Ok n) = n
length_of (Err why) = 0

-- what a call promises: its answer has the verdict's number, place and length, and the buffer is what the verdict makes of it
pub record Answered (part : ℕ) (verdict : Verdict) (answer : Answer) (before after : List ℕ) : Type 0 where
  pub number_is : number_of answer ≡ number verdict
  pub place_is : place_of answer ≡ place verdict
  pub length_is : length_of answer ≡ size verdict
  pub buffer_is : after ≡ buffer part verdict before

-- the contract of hint::octets
abbrev pub PrintedOctets : List ℕ → List ℕ → Answer → List ℕ → List ℕ → Type 0
PrintedOctets hint value answer before after = Answered octets_part (octets_verdict (length before) hint value) answer before after

-- the contract of hint::integer
abbrev pub PrintedInteger : List ℕ → ℤ → Answer → List ℕ → List ℕ → Type 0
PrintedInteger hint value answer before after = Answered integer_part (integer_verdict (length before) hint value) answer before after
