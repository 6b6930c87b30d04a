-- What parsing a text answers: refusals 3 to 7, over the cut of the text into tokens and the grammar as rules. Document 01,
-- "Refusals of the reader" and the third demand.
-- Assumes nothing.
use Rattle.std.specs.Prelude.{ℕ, zero, suc, ◌+◌, ◌≤◌, ◌<◌, ◌≡◌, ◌↔◌, List, [], ◌∷◌, length, take}
use Rattle.token.specs.Token.{Tok, class_of_token}
use Rattle.token.specs.Cut.{cut, whole, refused}
use Rattle.token.specs.Table.{TokenTable}
use Rattle.grammar.specs.Grammar.{smi_module}
use Rattle.grammar.specs.Answer.{Verdict, derived}
use Rattle.grammar.specs.Answer.{refused as refused-at}
use Rattle.grammar.specs.Derivation.{Derivation, tokens_of, DerivesTokens, BeginsTokens, AnswersTokens}
use Rattle.index.specs.declared.Place.{Place}

-- What parsing a text comes to. In the code that is a result: `Parsed` says which.
pub data Parsing : Type 0 where
  -- the grammar derives the text's tokens: so many of them
  Derived : ℕ → Parsing
  -- the text cuts into so many tokens, and the grammar does not derive them
  Underived : ℕ → Place → Parsing
  -- the text does not cut into tokens: the refusal's number and place
  Uncut : ℕ → Place → Parsing

-- a place: the start of the token of that index, or the text's length at its end
abbrev pub place_of : List Tok → ℕ → ℕ → ℕ
place_of [] size i = size
place_of (t ∷ ts) size zero = t.start
place_of (t ∷ ts) size (suc i) = place_of ts size i

-- the number of each case of the answer, and its place
abbrev pub number : Parsing → ℕ
number (Derived tokens) = 0
number (Underived tokens at) = 7
number (Uncut n at) = n

abbrev pub place : Parsing → ℕ
place (Derived tokens) = 0
place (Underived tokens at) = at.0
place (Uncut n at) = at.0

-- how many tokens the text cuts into
abbrev pub count : Parsing → ℕ
count (Derived n) = n
count (Underived n at) = n
count (Uncut n at) = 0

-- the answer to a verdict of the grammar on all tokens of a text of that size
abbrev pub answer_to : List Tok → ℕ → Verdict → Parsing
answer_to ts size derived = Derived (length ts)
answer_to ts size (refused-at i) = Underived (length ts) (record { 0 = place_of ts size i })

-- v is the right verdict of the grammar on tokens
abbrev pub Judges : List Tok → Verdict → Type 0
Judges ts v = AnswersTokens class_of_token smi_module ts v

-- The right answer to a text.
pub record Parses (t : List ℕ) (answer : Parsing) : Type 0 where
  -- a text that does not cut into tokens has the cut's refusal, 3 to 6
  pub uncut : (n p : ℕ) → (cut t).ending ≡ refused n p → answer ≡ Uncut n (record { 0 = p })
  -- any other is answered by the right verdict of the grammar on its tokens
  pub judged : (cut t).ending ≡ whole → (v : Verdict) × Judges (cut t).tokens v × (answer ≡ answer_to (cut t).tokens (length t) v)

-- The arrays are the token table of the text: of all its tokens, or of those before a refusal of the cut.
abbrev pub Tabled : List ℕ → Parsing → List ℕ → List ℕ → List ℕ → Type 0
Tabled t (Derived n) classes starts ends = TokenTable t (cut t).tokens classes starts ends n
Tabled t (Underived n at) classes starts ends = TokenTable t (cut t).tokens classes starts ends n
Tabled t (Uncut n at) classes starts ends = TokenTable t (cut t).tokens classes starts ends (length (cut t).tokens)

-- What `Derived n` says of a text: it is cut to its end, into n tokens, and the grammar derives them.
pub record DerivedText (t : List ℕ) (n : ℕ) : Type 0 where
  pub cut_whole : (cut t).ending ≡ whole
  pub counted : length (cut t).tokens ≡ n
  pub derives : DerivesTokens class_of_token smi_module (cut t).tokens

-- Where refusal 7 stands: at a token, if some derived sequence begins with the tokens before it and none, however long, with
-- these and it; or at the end, if some derived sequence begins with all of them.
pub record Fault (t : List ℕ) (at : ℕ) : Type 0 where
  pub index : ℕ
  pub within : index ≤ length (cut t).tokens
  pub stands : at ≡ place_of (cut t).tokens (length t) index
  pub begun : BeginsTokens class_of_token smi_module (take index (cut t).tokens)
  pub spoiled : index < length (cut t).tokens → BeginsTokens class_of_token smi_module (take (index + 1) (cut t).tokens) → ⊥

-- The third demand, of the answer to a text that cuts into tokens: refusal 7 exactly when the grammar derives no such token
-- sequence, at the place that the demand says; and a derivation is unique.
pub record ThirdDemand (t : List ℕ) (answer : Parsing) : Type 0 where
  pub exactly : (number answer ≡ 7) ↔ (DerivesTokens class_of_token smi_module (cut t).tokens → ⊥)
  pub otherwise : (number answer ≡ 0) ↔ DerivesTokens class_of_token smi_module (cut t).tokens
  pub at_fault : number answer ≡ 7 → Fault t (place answer)
  pub one_reading : (d e : Derivation class_of_token smi_module) → tokens_of class_of_token smi_module d ≡ (cut t).tokens → tokens_of class_of_token smi_module e ≡ (cut t).tokens → d ≡ e
