-- The token table: three parallel arrays that hold the tokens' classes, starts and ends.
-- Assumes nothing.
use Rattle.std.specs.Prelude.{Result, Ok, Err, ◌≡◌, List, ◌++◌, map, ℕ, ◌≤◌, ◌<◌, length, get_or, drop}
use Rattle.lexicon.specs.Word.{between}
use Rattle.token.specs.Token.{Tok, tok, no_token, class_of_token}
use Rattle.token.specs.Cut.{Ending, whole, refused, cut}
use Rattle.token.specs.Law.{Sound}

-- the longest text, in bytes; the arrays have as many entries, since a token has a byte at least
abbrev pub longest_text : ℕ
longest_text = 65536

-- the entry at i, read as a token of the text
unfoldable pub token_entry : List ℕ → List ℕ → List ℕ → List ℕ → ℕ → Tok
token_entry text classes starts ends i =
    tok (get_or classes i 0) (get_or starts i 0) (get_or ends i 0) (between text (get_or starts i 0) (get_or ends i 0))

-- The table of some tokens of a text: the first n entries of the three arrays are these tokens.
pub record TokenTable (text : List ℕ) (tokens : List Tok) (classes starts ends : List ℕ) (n : ℕ) : Type 0 where
  -- there are n of them, and no more than entries
  pub counted : length tokens ≡ n
  pub few : n ≤ longest_text
  pub classes_long : length classes ≡ longest_text
  pub starts_long : length starts ≡ longest_text
  pub ends_long : length ends ≡ longest_text
  -- the entry at i is token i
  pub entry_is : (i : ℕ) → i < n → token_entry text classes starts ends i ≡ get_or tokens i no_token
  -- which is sound
  pub sound : (i : ℕ) → i < n → Sound text (get_or tokens i no_token)

-- What may be lent to a cut: a text that is not too long, and arrays that have room for its tokens.
pub record Lent (text classes starts ends : List ℕ) : Type 0 where
  pub short : length text ≤ longest_text
  pub classes_long : length classes ≡ longest_text
  pub starts_long : length starts ≡ longest_text
  pub ends_long : length ends ≡ longest_text

-- an array that held `old`, with `new` in its first places and the rest as it was
abbrev pub overlaid : List ℕ → List ℕ → List ℕ
overlaid new old = new ++ drop (length new) old

-- the answer to a cut: how many tokens the whole text has, or the refusal's number and place
abbrev pub answer_to : ℕ → Ending → Result ℕ (ℕ × ℕ)
answer_to count whole = Ok count
answer_to count (refused n p) = Err (n, p)

-- What a cut leaves: its answer, and in each array the tokens up to where the cut ends, before what was there.
pub record Held (text : List ℕ) (answer : Result ℕ (ℕ × ℕ)) (classes starts ends classes' starts' ends' : List ℕ) : Type 0 where
  pub answered : answer ≡ answer_to (length (cut text).tokens) (cut text).ending
  pub classes_held : classes' ≡ overlaid (map class_of_token (cut text).tokens) classes
  pub starts_held : starts' ≡ overlaid (map (λ (t : Tok). t.start) (cut text).tokens) starts
  pub ends_held : ends' ≡ overlaid (map (λ (t : Tok). t.end) (cut text).tokens) ends
